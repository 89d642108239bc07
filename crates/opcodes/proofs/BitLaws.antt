-- The language's operations on bits are the definitions', bit by bit. Assumes nothing.
use Rattle.std.proofs.Common.{◌≡◌, ℕ, zero, suc, ◌+◌, ◌-◌, ◌*◌, ◌/◌, ◌%◌, ◌^◌, ◌<◌, min, max, refl, ap, ◌∙◌, mod-lt, pow-suc, arith, lit<, w64, Fits}
use lib.Arith.{lt-one}
use lib.Bits.{bit_and, bit_or, bit_xor, differ, and_step, or_step, xor_step}
use lib.Count as Count
use lib.Count.{ones_step, ones-le}
use Rattle.model.specs.Opcodes.{bitwise, count_of_ones}

half_below : (k a : ℕ) → a < 2 ^ suc k → a / 2 < 2 ^ k
half_below k a h = let e : 2 ^ suc k ≡ 2 ^ k * 2 = pow-suc 2 k in omega arith

ones_are_summed : (k n : ℕ) → n < 2 ^ k → Count.ones n ≡ count_of_ones k n
unfolding count_of_ones Count.ones Count.ones_in
ones_are_summed zero n h = rw (lt-one h) refl
ones_are_summed (suc k) n h = ones_step n ∙ ap (λ (x : ℕ). n % 2 + x) (ones_are_summed k (n / 2) (half_below k n h))

pub count_law : (n : ℕ) → n < 2 ^ 64 → Count.ones n ≡ count_of_ones 64 n
count_law n h = ones_are_summed 64 n h

pub count_fits : (n : ℕ) → n < 2 ^ 64 → Fits w64 (Count.ones n)
count_fits n h = let k = ones-le 64 n h in omega arith

-- an operation that goes by digits, with g of two digits, is bitwise f where g and f agree on digits
module _ (op f g : ℕ → ℕ → ℕ) (none : op 0 0 ≡ 0) (step : (a b : ℕ) → op a b ≡ op (a / 2) (b / 2) * 2 + g (a % 2) (b % 2))
    (same : (x y : ℕ) → x < 2 → y < 2 → g x y ≡ f x y) where
  by_digits : (k a b : ℕ) → a < 2 ^ k → b < 2 ^ k → op a b ≡ bitwise k f a b
  unfolding bitwise
  by_digits zero a b h i = rw (lt-one h, lt-one i) none
  by_digits (suc k) a b h i =
      let e : op (a / 2) (b / 2) ≡ bitwise k f (a / 2) (b / 2) = by_digits k (a / 2) (b / 2) (half_below k a h) (half_below k b i) in
      let d : g (a % 2) (b % 2) ≡ f (a % 2) (b % 2) = same (a % 2) (b % 2) (mod-lt a (lit< tt)) (mod-lt b (lit< tt)) in
      step a b ∙ rw (e, d) (omega arith)

-- four cases settle two digits
two_digits : (f g : ℕ → ℕ → ℕ) → g 0 0 ≡ f 0 0 → g 0 1 ≡ f 0 1 → g 1 0 ≡ f 1 0 → g 1 1 ≡ f 1 1 → (x y : ℕ) → x < 2 → y < 2 → g x y ≡ f x y
two_digits f g a b c d zero zero h i = a
two_digits f g a b c d zero (suc zero) h i = b
two_digits f g a b c d (suc zero) zero h i = c
two_digits f g a b c d (suc zero) (suc zero) h i = d
two_digits f g a b c d zero (suc (suc y)) h i = absurd (omega arith)
two_digits f g a b c d (suc zero) (suc (suc y)) h i = absurd (omega arith)
two_digits f g a b c d (suc (suc x)) y h i = absurd (omega arith)

module _ (a b : ℕ) (h : a < 2 ^ 64) (i : b < 2 ^ 64) where
  pub and_law : bit_and a b ≡ bitwise 64 (λ x y. x * y) a b
  and_law = by_digits bit_and (λ x y. x * y) min refl and_step (two_digits (λ x y. x * y) min refl refl refl refl) 64 a b h i

  pub or_law : bit_or a b ≡ bitwise 64 (λ x y. x + y - x * y) a b
  or_law = by_digits bit_or (λ x y. x + y - x * y) max refl or_step (two_digits (λ x y. x + y - x * y) max refl refl refl refl) 64 a b h i

  pub xor_law : bit_xor a b ≡ bitwise 64 (λ x y. (x + y) % 2) a b
  xor_law = by_digits bit_xor (λ x y. (x + y) % 2) differ refl xor_step (two_digits (λ x y. (x + y) % 2) differ refl refl refl refl) 64 a b h i

pub ruleset bits = (count_law, count_fits, and_law, or_law, xor_law)
