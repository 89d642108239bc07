-- The quantified hypotheses of demand 3 follow from a test of each word of a given memory. Assumes nothing.
use mathlib.Core.Path.{◌≡◌, refl, sym, ◌∙◌}
use mathlib.Core.Bool.{Bool, true, false, not, ◌&&◌, ◌||◌, true≢false}
use mathlib.Core.List.{List}
use Prim.Native.Nat.{ℕ, ◌≤◌}
use native.Mathlib.Omega.{arith}
use lib.Dec.{ltb, eqb}
use lib.ListN.{length, get_or, get_or-eq_default}
use borrow.Author.Tests.{ltb-true, ltb-false, eqb-true, not-false}
use Rattle.model.specs.Registers.{Machine}
use Rattle.model.specs.Reach.{is_descriptor_word, some_below, observable, writable}
use Rattle.model.proofs.BranchLaws.{and_both, and_left}
use Rattle.secrecy.specs.Statement.{Agree, DescriptorsUnwritable}
use Rattle.model.proofs.ReachLaws.{none_below}

-- where a word must agree, it doesn't differ
unfoldable pub differs : (ring : ℕ) → (start : Machine) → (memory other : List ℕ) → (address : ℕ) → Bool
differs n start m k x = (is_descriptor_word start x || observable n start x) && not (eqb (get_or m x 0) (get_or k x 0))

pub agree_by_test : (n : ℕ) (start : Machine) (m k : List ℕ) (bound : ℕ) → length m ≤ bound → length k ≤ bound →
    some_below bound (differs n start m k) ≡ false → Agree n start m k
unfolding Agree differs
agree_by_test n start m k bound i j e x h = by_test (ltb x bound) refl
  where
    passed : (a b : Bool) → (a && b) ≡ false → a ≡ true → b ≡ false
    passed true b p q = p
    passed false b p q = absurd (true≢false (sym q))

    by_test : (t : Bool) → ltb x bound ≡ t → get_or m x 0 ≡ get_or k x 0
    by_test true p =
        eqb-true _ _
        (not-false (eqb (get_or m x 0) (get_or k x 0))
        (passed (is_descriptor_word start x || observable n start x) _ (none_below (differs n start m k) bound e x (ltb-true _ _ p)) h))
    by_test false p =
        let l = ltb-false x bound p in get_or-eq_default m 0 {n = x} (omega arith) ∙ sym (get_or-eq_default k 0 {n = x} (omega arith))

pub unwritable_by_test : (n : ℕ) (start : Machine) →
    some_below (length start.memory) (λ x. is_descriptor_word start x && writable n start x) ≡ false → DescriptorsUnwritable n start
unfolding DescriptorsUnwritable is_descriptor_word
unwritable_by_test n start e x h = by_test (writable n start x) refl
  where
    by_test : (t : Bool) → writable n start x ≡ t → writable n start x ≡ false
    by_test true p =
        let i = ltb-true x (length start.memory) (and_left _ _ h) in
        absurd (true≢false (sym (and_both (is_descriptor_word start x) (writable n start x) h p) ∙ none_below _ (length start.memory) e x i))
    by_test false p = p
