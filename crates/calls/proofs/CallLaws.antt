-- A call's signed number, and each answer. Assumes nothing.
use mathlib.Core.Path.{◌≡◌, refl, sym, ◌∙◌, ap, subst}
use mathlib.Core.Bool.{cond}
use mathlib.Core.List.{List, ◌++◌}
use Prim.Native.Nat.{ℕ, zero, suc, ◌+◌, ◌-◌, ◌^◌, ◌<◌}
use native.Mathlib.Omega.{arith}
use lib.Dec.{eqb}
use lib.IntN.{ℤ, pos, negsuc, ◌-ℤ◌}
use lib.ListN.{length, drop}
use borrow.Author.Tests.{le-leb, ne_eqb}
use mir.Syntax.{w64}
use mir.Val.{SFits, to_z, of_z}
use mir.Facts.{to_z_pos, to_z-of_z}
use Rattle.model.specs.Bench as Bench
use Rattle.model.specs.Bench.{negated, call_refused, call_wrote}
use Rattle.std.specs.Prelude.{Result, Ok, Err}
use Rattle.calls.specs.Call.{as_answer, SignedAs, LengthFits, CalledAs}

-- A REFUSAL: the number negated fits
difference : (n : ℕ) → pos 0 -ℤ pos n ≡ negated n
unfolding negated
difference zero = refl
difference (suc n) =
    ap (λ b. cond b (negsuc (suc n - 1)) (pos (0 - suc n))) (le-leb 1 (suc n) (omega arith)) ∙ ap negsuc (let e : suc n - 1 ≡ n = omega arith in e)

negated_fits : (n : ℕ) → n < 256 → SFits w64 (negated n)
unfolding negated
negated_fits zero h = record { sfits = omega arith }
negated_fits (suc n) h = record { sfits = omega arith }

module _ (n : ℕ) (h : n < 256) where
  subtracted : pos 0 -ℤ to_z w64 n ≡ negated n
  subtracted = ap (λ (z : ℤ). pos 0 -ℤ z) (to_z_pos w64 (let e : n < 2 ^ 63 = omega arith in e)) ∙ difference n

  pub refusal_fits : SFits w64 (pos 0 -ℤ to_z w64 n)
  refusal_fits = subst (SFits w64) (sym subtracted) (negated_fits n h)

  pub refusal_same : to_z w64 (of_z w64 (pos 0 -ℤ to_z w64 n)) ≡ negated n
  refusal_same = to_z-of_z refusal_fits ∙ subtracted

-- THE SIGNED NUMBER
pub length_same : (n : ℕ) → n < 2 ^ 63 → to_z w64 n ≡ pos n
length_same n f = to_z_pos w64 f

pub length_fits : (n : ℕ) → n < 2 ^ 63 → SFits w64 (pos n)
length_fits n f = record { sfits = f }

pub ruleset signs = (refusal_fits, refusal_same, length_same, length_fits)

module _ {E : Type 0} (number : E → ℕ) where
  -- A REFUSED CALL
  pub refuses : (y : Bench.Called) (error : E) (t : List ℕ) → y ≡ call_refused (number error) t → CalledAs number y (Err error) t
  unfolding as_answer call_refused
  refuses y error t e =
      record {
        answer_same = sym (ap (λ (x : Bench.Called). x.answer) e);
        buffer_same = sym (ap (λ (x : Bench.Called). x.buffer) e);
        fits = tt;
      }

  pub wrote : (y : Bench.Called) (n : ℕ) (new t u : List ℕ) → y ≡ call_wrote new t → n ≡ length new → n < 2 ^ 63 → u ≡ new ++ drop (length new) t → CalledAs number y (Ok n) u
  unfolding as_answer call_wrote
  wrote y n new t u e s f h =
      record {
        answer_same = ap pos s ∙ sym (ap (λ (x : Bench.Called). x.answer) e);
        buffer_same = h ∙ sym (ap (λ (x : Bench.Called). x.buffer) e);
        fits = f;
      }

  -- WHAT A HOST GETS of a call
  signed_by : (x : Result ℕ E) (r : ℤ) → SignedAs (λ error n. n ≡ number error) x r → r ≡ as_answer number x
  unfolding as_answer
  signed_by (Ok n) r s = s
  signed_by (Err error) r s = s.1.1 ∙ ap negated s.1.0

  module _ (y : Bench.Called) (x : Result ℕ E) (u : List ℕ) (w : CalledAs number y x u) where
    pub answer_fits : LengthFits x
    answer_fits = w.fits

    pub answered : (r : ℤ) → SignedAs (λ error n. n ≡ number error) x r → r ≡ y.answer
    answered r s = signed_by x r s ∙ w.answer_same

    pub buffer_left : u ≡ y.buffer
    buffer_left = w.buffer_same

pub ruleset calls = (answer_fits, answered, buffer_left)
