-- A record's mark by its first two bytes. Assumes nothing.
use mathlib.Core.Path.{◌≡◌, refl, sym, ◌∙◌, ap}
use mathlib.Core.Bool.{Bool, true, false, ◌&&◌}
use mathlib.Core.List.{List, [], ◌∷◌, ◌++◌}
use mathlib.Core.Option as Model
use mathlib.Core.Option.{none, some}
use Rattle.std.specs.Prelude.{Option, Some}
use Prim.Native.Nat.{ℕ, ◌≤◌, ◌<◌}
use native.Mathlib.Omega.{arith}
use lib.Dec.{eqb}
use lib.ListN.{length, get_or, take, get_or-append}
use lib.Seq.{get_or-take}
use Rattle.model.specs.Image.{Rules, Mark, ME, ST, WD, RN, marked, mark_of, start_size}
use Rattle.fields.specs.declared.mark.Mark as Code
use Rattle.fields.specs.declared.rules.Rules as CodeRules
use Rattle.fields.specs.declared.rules.Rules.TheVariants.{Today, Stored}
use Rattle.fields.specs.declared.mark.Mark.TheVariants.{Start}
use Rattle.fields.specs.Mark.{size_of}
use Rattle.fields.specs.Rules.{rules_of}

-- the tests in turn
module _ (x y : ℕ) where
  pub me_mark : (eqb x 77 && eqb y 69) ≡ true → some ME ≡ mark_of (x ∷ y ∷ [])
  unfolding mark_of marked
  me_mark e = sym (rw e)

  module _ (not_me : (eqb x 77 && eqb y 69) ≡ false) where
    pub st_mark : (eqb x 83 && eqb y 84) ≡ true → some ST ≡ mark_of (x ∷ y ∷ [])
    unfolding mark_of marked
    st_mark e = sym (rw (not_me, e))

    module _ (not_st : (eqb x 83 && eqb y 84) ≡ false) where
      pub wd_mark : (eqb x 87 && eqb y 68) ≡ true → some WD ≡ mark_of (x ∷ y ∷ [])
      unfolding mark_of marked
      wd_mark e = sym (rw (not_me, not_st, e))

      module _ (not_wd : (eqb x 87 && eqb y 68) ≡ false) where
        pub rn_mark : (eqb x 82 && eqb y 78) ≡ true → some RN ≡ mark_of (x ∷ y ∷ [])
        unfolding mark_of marked
        rn_mark e = sym (rw (not_me, not_st, not_wd, e))

        pub no_mark : (eqb x 82 && eqb y 78) ≡ false → none ≡ mark_of (x ∷ y ∷ [])
        unfolding mark_of marked
        no_mark e = sym (rw (not_me, not_st, not_wd, e))

-- of two bytes at least the first two decide, and of fewer none is known
pub same_mark : (x : Model.Option Mark) (bs : List ℕ) → x ≡ mark_of (get_or bs 0 0 ∷ get_or bs 1 0 ∷ []) → x ≡ mark_of bs
unfolding mark_of marked
same_mark x bs e = e

and_false : (a : Bool) → (a && false) ≡ false
and_false true = refl
and_false false = refl

pub short_mark : (bs : List ℕ) → length bs < 2 → none ≡ mark_of bs
unfolding mark_of marked
short_mark [] h = refl
short_mark (b ∷ []) h = sym (rw (and_false (eqb b 77), and_false (eqb b 83), and_false (eqb b 87), and_false (eqb b 82)))
short_mark (b ∷ c ∷ bs) h = absurd (omega arith)

pub mark_of_record : (n : ℕ) (bs : List ℕ) → 2 ≤ n → mark_of (take n bs) ≡ mark_of bs
unfolding mark_of marked
mark_of_record n bs h = rw (get_or-take n bs 0 0 (omega arith), get_or-take n bs 1 0 (omega arith))

pub mark_of_front : (bs rest : List ℕ) → 2 ≤ length bs → mark_of (bs ++ rest) ≡ mark_of bs
unfolding mark_of marked
mark_of_front bs rest h = rw (get_or-append bs rest 0 0 (omega arith), get_or-append bs rest 0 1 (omega arith))

-- THE SIZE OF ST by the rules
pub start_has_registers : (v : CodeRules.Rules) → 61 ≤ start_size (rules_of v)
unfolding start_size rules_of
start_has_registers Stored = omega arith
start_has_registers Today = omega arith

pub start_within : (v : CodeRules.Rules) → start_size (rules_of v) ≤ 66
unfolding start_size rules_of
start_within Stored = omega arith
start_within Today = omega arith

pub start_sized : (v : Rules) (k : Option Code.Mark) (n : ℕ) → k ≡ Some Start → n ≡ start_size v → n ≡ size_of v k
start_sized v k n e q = q ∙ ap (size_of v) (sym e)

pub ruleset start_sizes = (start_sized)

pub ruleset marks = (me_mark, st_mark, wd_mark, rn_mark, no_mark, same_mark, short_mark)
