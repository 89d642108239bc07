-- A test of all elements, and a property of every word, after a store and a map. Assumes nothing.
use mathlib.Core.Path.{◌≡◌, refl}
use mathlib.Core.Bool.{Bool, true}
use mathlib.Core.List.{List, [], ◌∷◌, map}
use Prim.Native.Nat.{ℕ, zero, suc}
use lib.ListN.{get_or, set}
use Rattle.model.specs.Questions.{all}
use Rattle.model.proofs.BranchLaws.{and_left, and_right, and_both}

module _ {A : Type 0} (f : A → Bool) where
  pub all_set : (xs : List A) (i : ℕ) (x : A) → all f xs ≡ true → f x ≡ true → all f (set xs i x) ≡ true
  unfolding all
  all_set [] i x e h = e
  all_set (y ∷ ys) zero x e h = and_both (f x) (all f ys) h (and_right (f y) (all f ys) e)
  all_set (y ∷ ys) (suc i) x e h =
      and_both (f y) (all f (set ys i x)) (and_left (f y) (all f ys) e) (all_set ys i x (and_right (f y) (all f ys) e) h)

  pub all_get : (xs : List A) (i : ℕ) (d : A) → all f xs ≡ true → f d ≡ true → f (get_or xs i d) ≡ true
  unfolding all
  all_get [] i d e h = h
  all_get (y ∷ ys) zero d e h = and_left (f y) (all f ys) e
  all_get (y ∷ ys) (suc i) d e h = all_get ys i d (and_right (f y) (all f ys) e) h

  pub all_map : (g : A → Bool) (h : A → A) → ((x : A) → g x ≡ true → f (h x) ≡ true) → (xs : List A) → all g xs ≡ true → all f (map h xs) ≡ true
  unfolding all
  all_map g h k [] e = refl
  all_map g h k (y ∷ ys) e =
      and_both (f (h y)) (all f (map h ys)) (k y (and_left (g y) (all g ys) e)) (all_map g h k ys (and_right (g y) (all g ys) e))

  pub all_from : (g : A → Bool) → ((x : A) → g x ≡ true → f x ≡ true) → (xs : List A) → all g xs ≡ true → all f xs ≡ true
  unfolding all
  all_from g k [] e = refl
  all_from g k (y ∷ ys) e = and_both (f y) (all f ys) (k y (and_left (g y) (all g ys) e)) (all_from g k ys (and_right (g y) (all g ys) e))

-- a property of the word at every address; past the end it is 0
abbrev pub EachWord : (W : ℕ → Type 0) → List ℕ → Type 0
EachWord W m = (x : ℕ) → W (get_or m x 0)

pub each_word_set : (W : ℕ → Type 0) (m : List ℕ) (i v : ℕ) → EachWord W m → W v → EachWord W (set m i v)
each_word_set W [] i v h w x = h x
each_word_set W (y ∷ ys) zero v h w zero = w
each_word_set W (y ∷ ys) zero v h w (suc x) = h (suc x)
each_word_set W (y ∷ ys) (suc i) v h w zero = h zero
each_word_set W (y ∷ ys) (suc i) v h w (suc x) = each_word_set W ys i v (λ z. h (suc z)) w x

-- a test of all words, and of every address where 0 passes it
pub all_each : (f : ℕ → Bool) (m : List ℕ) → f 0 ≡ true → all f m ≡ true → EachWord (λ w. f w ≡ true) m
all_each f m z e x = all_get f m x 0 e z

pub each_all : (f : ℕ → Bool) (m : List ℕ) → EachWord (λ w. f w ≡ true) m → all f m ≡ true
unfolding all
each_all f [] h = refl
each_all f (x ∷ xs) h = and_both (f x) (all f xs) (h 0) (each_all f xs (λ z. h (suc z)))
