-- The numbers of an image: one byte, and a number of two halves. Assumes nothing.
use mathlib.Core.Path.{◌≡◌, refl, sym, ◌∙◌, ap, ap₂}
use mathlib.Core.List.{List, [], ◌∷◌, ◌++◌}
use Prim.Native.Nat.{ℕ, ◌+◌, ◌*◌, ◌^◌, ◌≤◌}
use native.Mathlib.Nat.{mul_assoc, mul-add, pow-suc}
use native.Mathlib.Omega.{arith}
use lib.ListN.{length, get_or, take, drop, length-drop}
use lib.Seq.{take-add, drop-drop, drop-cons, length-take-le}
use Rattle.model.specs.Image.{big_endian, number_at}

pub one_byte : (a : ℕ) (bs : List ℕ) → a + 1 ≤ length bs → get_or bs a 0 ≡ number_at a 1 bs
unfolding number_at big_endian
one_byte a bs h =
    let y : get_or bs a 0 ≡ 256 * 0 + get_or bs a 0 = omega arith in
    y ∙ sym (ap (λ xs. big_endian 0 (take 1 xs)) (drop-cons bs a 0 (omega arith)))

big_endian_append : (v : ℕ) (xs ys : List ℕ) → big_endian v (xs ++ ys) ≡ big_endian (big_endian v xs) ys
unfolding big_endian
big_endian_append v [] ys = refl
big_endian_append v (x ∷ xs) ys = big_endian_append (256 * v + x) xs ys

-- the number so far counts 256 times as much for each byte that follows
one_more : (p v x z : ℕ) → p * (256 * v + x) + z ≡ p * 256 * v + (p * (256 * 0 + x) + z)
one_more p v x z =
    let q = mul-add p (256 * v) x in
    let r = mul-add p (256 * 0) x in
    let s = mul_assoc p 256 v in
    omega arith

big_endian_from : (v : ℕ) (xs : List ℕ) → big_endian v xs ≡ 256 ^ length xs * v + big_endian 0 xs
unfolding big_endian
big_endian_from v [] = omega arith
big_endian_from v (x ∷ xs) =
    big_endian_from (256 * v + x) xs ∙ one_more (256 ^ length xs) v x (big_endian 0 xs)
    ∙ ap₂ (λ k n. k * v + n) (sym (pow-suc 256 (length xs))) (sym (big_endian_from (256 * 0 + x) xs))

module _ (n p scale a : ℕ) (bs : List ℕ) (x y : ℕ) where
  pub two_halves : x ≡ number_at a n bs → y ≡ number_at (a + n) n bs → a + p ≤ length bs → p ≡ n + n → scale ≡ 256 ^ n → scale * x + y ≡ number_at a p bs
  unfolding number_at
  two_halves e f h q s =
      let xs = take n (drop a bs) in
      let ys = take n (drop n (drop a bs)) in
      let long : length ys ≡ n = length-take-le n _ (let u = length-drop a bs in let w = length-drop n (drop a bs) in omega arith) in
      let low : big_endian 0 ys ≡ y = ap (λ l. big_endian 0 (take n l)) (drop-drop n a bs) ∙ sym f in
      let all : big_endian 0 (take p (drop a bs)) ≡ big_endian (big_endian 0 xs) ys = rw (q, take-add n n (drop a bs)) (big_endian_append 0 xs ys) in
      let high : big_endian (big_endian 0 xs) ys ≡ 256 ^ n * x + y = big_endian_from (big_endian 0 xs) ys ∙ rw (long, low, e) in
      rw s (sym (all ∙ high))

pub four_quarters : (a : ℕ) (bs : List ℕ) (x y z w : ℕ) → x ≡ number_at a 2 bs → y ≡ number_at (a + 2) 2 bs → z ≡ number_at (a + 4) 2 bs → w ≡ number_at (a + 6) 2 bs →
    a + 8 ≤ length bs → 281474976710656 * x + 4294967296 * y + 65536 * z + w ≡ number_at a 8 bs
four_quarters a bs x y z w e f g h l =
    let last : w ≡ number_at (a + 4 + 2) 2 bs = h ∙ ap (λ k. number_at k 2 bs) (let q : a + 6 ≡ a + 4 + 2 = omega arith in q) in
    let high = two_halves 2 4 65536 a bs x y e f (omega arith) refl refl in
    let low = two_halves 2 4 65536 (a + 4) bs z w g last (omega arith) refl refl in
    let all = two_halves 4 8 4294967296 a bs (number_at a 4 bs) (number_at (a + 4) 4 bs) refl refl l refl refl in
    omega arith

pub ruleset numbers = (one_byte, two_halves, four_quarters)
