-- Tests and their negations, and the model's questions as branches. Assumes nothing.
use mathlib.Core.Path.{◌≡◌, refl, sym, subst}
use mathlib.Core.Bool.{Bool, true, false, ◌&&◌, ◌||◌, not, cond}
use Prim.Native.Nat.{ℕ, zero, suc}
use lib.Dec.{ltb, leb, eqb, eqb-suc-zero}
use borrow.Author.Tests.{ltb-true, ltb-false, le-leb, lt-leb}
use Rattle.model.specs.Questions.{ask, then_ask}

pub leb_is_not_ltb : (a b : ℕ) → leb a b ≡ not (ltb b a)
leb_is_not_ltb a b = by_test (ltb b a) refl
  where
    by_test : (t : Bool) → ltb b a ≡ t → leb a b ≡ not t
    by_test true e = lt-leb a b (ltb-true b a e)
    by_test false e = le-leb a b (ltb-false b a e)

pub not_not : (b : Bool) → b ≡ not (not b)
not_not true = refl
not_not false = refl

pub ltb_is_not_leb : (a b : ℕ) → ltb a b ≡ not (leb b a)
ltb_is_not_leb a b = rw (leb_is_not_ltb b a) (not_not (ltb a b))

pub and_is_not_or : {a b : Bool} (c d : Bool) → a ≡ not c → b ≡ not d → (a && b) ≡ not (c || d)
and_is_not_or c d p q = rw (p, q) (by_test c)
  where
    by_test : (c : Bool) → (not c && not d) ≡ not (c || d)
    by_test true = refl
    by_test false = refl

-- a question is a branch on its test, or on the test's negation
pub ask_is_cond : (b c : Bool) (n : ℕ) {x y : ℕ} → b ≡ not c → x ≡ y → ask b n x ≡ cond c n y
unfolding ask
ask_is_cond b c n {x} {y} p q = subst (λ z. ask z n x ≡ cond c n y) (sym p) (by_test c)
  where
    by_test : (c : Bool) → ask (not c) n x ≡ cond c n y
    by_test true = refl
    by_test false = q

pub ask_is_passed : (b : Bool) (n x : ℕ) → ask b n x ≡ cond b x n
unfolding ask
ask_is_passed true n x = refl
ask_is_passed false n x = refl

-- questions behind others are a branch on the first answer
pub then_ask_is_cond : (k x : ℕ) → then_ask k x ≡ cond (not (eqb k 0)) k x
unfolding then_ask
then_ask_is_cond zero x = refl
then_ask_is_cond (suc k) x = rw (eqb-suc-zero k)
