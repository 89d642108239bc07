-- What `some_below` says of each number below the bound. Assumes nothing.
use mathlib.Core.Path.{◌≡◌, refl, sym, ◌∙◌, ap₂, subst}
use mathlib.Core.Bool.{Bool, true, false, ◌||◌, true≢false}
use Prim.Native.Nat.{ℕ, zero, suc, ◌≤◌, ◌<◌}
use native.Mathlib.Omega.{arith}
use lib.Dec.{eqb}
use borrow.Author.Tests.{eqb-true, eqb-false}
use Rattle.model.specs.Reach.{some_below}
use Rattle.model.proofs.BranchLaws.{or_left, or_right}

pub some_below_has : (f : ℕ → Bool) (bound i : ℕ) → i < bound → f i ≡ true → some_below bound f ≡ true
unfolding some_below
some_below_has f zero i h e = absurd (let z : suc i ≤ 0 = h in omega arith)
some_below_has f (suc s) i h e = by_test (eqb i s) refl (λ g. some_below_has f s i g e)
  where
    by_test : (t : Bool) → eqb i s ≡ t → (i < s → some_below s f ≡ true) → some_below (suc s) f ≡ true
    by_test true q g = or_left (f s) (some_below s f) (subst (λ j. f j ≡ true) (eqb-true i s q) e)
    by_test false q g = or_right (f s) (some_below s f) (g (let z : i ≡ s → ⊥ = eqb-false i s q in omega arith))

pub none_below : (f : ℕ → Bool) (bound : ℕ) → some_below bound f ≡ false → (i : ℕ) → i < bound → f i ≡ false
none_below f bound e i h = by_test (f i) refl
  where
    by_test : (t : Bool) → f i ≡ t → f i ≡ false
    by_test true p = absurd (true≢false (sym (some_below_has f bound i h p) ∙ e))
    by_test false p = p

pub some_below_same : (f g : ℕ → Bool) → ((i : ℕ) → f i ≡ g i) → (bound : ℕ) → some_below bound f ≡ some_below bound g
unfolding some_below
some_below_same f g same zero = refl
some_below_same f g same (suc b) = ap₂ ◌||◌ (same b) (some_below_same f g same b)
