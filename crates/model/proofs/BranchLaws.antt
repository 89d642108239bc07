-- Branches and tests: what a relation or a property of both arms says of the whole, and what a test's value says of its parts. Assumes nothing.
use mathlib.Core.Path.{◌≡◌, refl, sym, ◌∙◌, subst}
use mathlib.Core.Bool.{Bool, true, false, ◌&&◌, ◌||◌, not, cond, false≢true}
use Prim.Native.Nat.{ℕ}
use lib.Dec.{eqb}
use borrow.Author.Tests.{eqb-true, eqb-false}

-- a relation goes through a branch on two equal tests
pub cond_rel {ℓ ℓ' κ} : {A : Type ℓ} {B : Type ℓ'} (R : A → B → Type κ) {b c : Bool} {x y : A} {x' y' : B} →
    b ≡ c → (b ≡ true → R x x') → (b ≡ false → R y y') → R (cond b x y) (cond c x' y')
cond_rel R {b} {c} {x} {y} {x'} {y'} p f g = subst (λ t. R (cond b x y) (cond t x' y')) p (by_test b f g)
  where
    by_test : (b : Bool) → (b ≡ true → R x x') → (b ≡ false → R y y') → R (cond b x y) (cond b x' y')
    by_test true f g = f refl
    by_test false f g = g refl

-- a property, likewise
pub cond_holds {ℓ κ} : {A : Type ℓ} (P : A → Type κ) (b : Bool) {x y : A} → (b ≡ true → P x) → (b ≡ false → P y) → P (cond b x y)
cond_holds P true f g = f refl
cond_holds P false f g = g refl

pub and_left : (a b : Bool) → (a && b) ≡ true → a ≡ true
and_left true b e = refl
and_left false b e = e

pub and_right : (a b : Bool) → (a && b) ≡ true → b ≡ true
and_right true b e = e
and_right false b e = absurd (false≢true e)

pub and_both : (a b : Bool) → a ≡ true → b ≡ true → (a && b) ≡ true
and_both true b p q = q
and_both false b p q = p

pub and_same : (a b x y : Bool) → a ≡ b → (a ≡ true → x ≡ y) → (a && x) ≡ (b && y)
and_same a b x y p f = subst (λ z. (a && x) ≡ (z && y)) p (by_test a f)
  where
    by_test : (a : Bool) → (a ≡ true → x ≡ y) → (a && x) ≡ (a && y)
    by_test true f = f refl
    by_test false f = refl

pub or_left : (a b : Bool) → a ≡ true → (a || b) ≡ true
or_left true b p = refl
or_left false b p = absurd (false≢true p)

pub or_right : (a b : Bool) → b ≡ true → (a || b) ≡ true
or_right true b p = refl
or_right false b p = p

-- the privilege test: where it passes above ring 0, the opcode is not privileged
pub not_or_false : (a b : Bool) → (not a || b) ≡ true → b ≡ false → a ≡ false
not_or_false true b e f = sym e ∙ f
not_or_false false b e f = refl

pub or_rest : (a b : Bool) → a ≡ false → (a || b) ≡ true → b ≡ true
or_rest true b e h = absurd (false≢true (sym e))
or_rest false b e h = h

pub or_none : (a b : Bool) → (a || b) ≡ false → (a ≡ false) × (b ≡ false)
or_none true b e = absurd (false≢true (sym e))
or_none false b e = (refl, e)

-- two numbers are equal or not
pub by_equality {ℓ} : {A : Type ℓ} (a b : ℕ) → (a ≡ b → A) → ((a ≡ b → ⊥) → A) → A
by_equality {A = A} a b f g = by_test (eqb a b) refl
  where
    by_test : (t : Bool) → eqb a b ≡ t → A
    by_test true e = f (eqb-true a b e)
    by_test false e = g (eqb-false a b e)
