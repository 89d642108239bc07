-- The registers in an ST record, field by field. Assumes nothing.
use mathlib.Core.Path.{◌≡◌, refl, sym, ◌∙◌, ap}
use mathlib.Core.List.{List, [], ◌∷◌, ◌++◌}
use Prim.Native.Nat.{ℕ, zero, suc, ◌+◌, ◌*◌, ◌≤◌, ◌<◌}
use native.Mathlib.Numerals.{add-one}
use native.Mathlib.Omega.{arith}
use lib.ListN.{length, get_or, set, take}
use lib.Seq.{take_all, take-suc, take-suc-set}
use Rattle.model.specs.Words.{Pointer}
use Rattle.model.specs.Registers.{Registers, Delivery, no_delivery}
use Rattle.model.specs.Image.{start_size, number_at, pointer_at, pointers_at, registers_at, delivery_at}
use Rattle.state.specs.View.{pointers_in, as_pointers}
use Rattle.fields.specs.Rules.{rules_of}
use Rattle.fields.specs.declared.rules.Rules.{Rules}
use Rattle.fields.specs.declared.rules.Rules.TheVariants.{Today, Stored}

pub pointer_read : (a n s i : ℕ) (bs : List ℕ) → n ≡ number_at a 1 bs → s ≡ number_at (a + 1) 2 bs → i ≡ number_at (a + 3) 2 bs →
    ◌≡◌ {A = Pointer} (record { ring = n; segment = s; word = i }) (pointer_at a bs)
unfolding pointer_at
pointer_read a n s i bs e f g = rw (e, f, g)

-- the PRs one after another
pointer_of_number : (n k a : ℕ) (bs : List ℕ) (d : Pointer) → k < n → get_or (pointers_at n a bs) k d ≡ pointer_at (a + 5 * k) bs
unfolding pointers_at
pointer_of_number zero k a bs d h = absurd (omega arith)
pointer_of_number (suc n) zero a bs d h = ap (λ i. pointer_at i bs) (omega arith)
pointer_of_number (suc n) (suc k) a bs d h = pointer_of_number n k (a + 5) bs d (omega arith) ∙ ap (λ i. pointer_at i bs) (omega arith)

eight_pointers : (prs : List ℕ) → length (as_pointers prs) ≡ 8
unfolding as_pointers pointers_in
eight_pointers prs = refl

eight_read : (bs : List ℕ) → length (pointers_at 8 21 bs) ≡ 8
unfolding pointers_at
eight_read bs = refl

module _ (bs prs : List ℕ) (k : ℕ) (e : take k (as_pointers prs) ≡ take k (pointers_at 8 21 bs)) where
  pub one_more_read : (prs_now : List ℕ) (p q : Pointer) → as_pointers prs_now ≡ set (as_pointers prs) k p → p ≡ q → q ≡ pointer_at (21 + 5 * k) bs → k < 8 →
      take (k + 1) (as_pointers prs_now) ≡ take (k + 1) (pointers_at 8 21 bs)
  one_more_read prs_now p q f g h b =
      let x = eight_pointers prs in
      let y = eight_read bs in
      let same : p ≡ get_or (pointers_at 8 21 bs) k p = g ∙ h ∙ sym (pointer_of_number 8 k 21 bs p b) in
      rw (add-one, f, take-suc-set (as_pointers prs) k p (omega arith), e, take-suc (pointers_at 8 21 bs) k p (omega arith)) (ap (λ t. take k (pointers_at 8 21 bs) ++ (t ∷ [])) same)

  pub prs_read : 8 ≤ k → as_pointers prs ≡ pointers_at 8 21 bs
  prs_read b =
      let x = eight_pointers prs in
      let y = eight_read bs in
      sym (take_all k (as_pointers prs) (omega arith)) ∙ e ∙ take_all k (pointers_at 8 21 bs) (omega arith)

pub registers_read : (bs : List ℕ) (a b l : ℕ) (p : Pointer) (ps : List Pointer) → a ≡ number_at 2 8 bs → b ≡ number_at 10 4 bs → l ≡ number_at 14 2 bs →
    p ≡ pointer_at 16 bs → ps ≡ pointers_at 8 21 bs →
    ◌≡◌ {A = Registers} (record { a = a; dbr = record { address = b; length = l }; ipr = p; prs = ps }) (registers_at bs)
unfolding registers_at
registers_read bs a b l p ps e f g h i = rw (e, f, g, h, i)

-- WHAT FAULTS DO, by the rules
module _ (v : Rules) (bs : List ℕ) where
  pub none_delivered : v ≡ Stored → no_delivery ≡ delivery_at (rules_of v) bs
  unfolding rules_of delivery_at
  none_delivered e = sym (rw e)

  pub delivery_read : v ≡ Today → (n s i : ℕ) → n ≡ number_at 61 1 bs → s ≡ number_at 62 2 bs → i ≡ number_at 64 2 bs →
      ◌≡◌ {A = Delivery} (record { switch = n; save = s; handler = i }) (delivery_at (rules_of v) bs)
  unfolding rules_of delivery_at
  delivery_read e n s i f g h = rw (e, f, g, h)

  module _ (whole : start_size (rules_of v) ≤ length bs) where
    pub delivery_within : v ≡ Today → (n : ℕ) → n ≤ 66 → n ≤ length bs
    unfolding rules_of start_size
    delivery_within e n h = let y = rw e at whole in omega arith

pub ruleset registers_in = (pointer_read, one_more_read, prs_read, registers_read)

pub ruleset delivery_in = (none_delivered, delivery_read, delivery_within)
