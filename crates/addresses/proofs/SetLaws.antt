-- A set without members, and one bit put in: that address is in it, and every other as before. Assumes nothing.
use mathlib.Core.Path.{◌≡◌, refl, sym, ◌∙◌, ap, ap₂, fun_ext}
use mathlib.Core.Bool.{Bool, true, false, ◌||◌, cond}
use mathlib.Core.List.{List}
use Prim.Native.Nat.{ℕ, zero, suc, ◌*◌, ◌/◌, ◌%◌, ◌^◌, ◌<◌}
use native.Mathlib.Nat.{pow-succ', div-div-eq-div-mul, div-one, zero-div, one-mul, mod-lt, zero-lt-suc}
use native.Mathlib.Omega.{arith}
use lib.Bits.{bit_or, or_shr, or_mod, shifted_half, shifted_even}
use lib.Pow.{shl_exact}
use lib.Dec.{eqb, eqb-zero-suc, eqb-suc-zero, eqb-suc-suc}
use lib.ListN.{length, get_or, set, replicate}
use lib.Seq.{get_or-set_same, get_or-set_other}
use borrow.Author.Tests.{eqb-true, eqb-false, eq-eqb, ne_eqb}
use Rattle.addresses.specs.Set.{in_set}

-- nothing is in a set of zeros
pub none_in_zeros : (n : ℕ) → in_set (replicate n 0) ≡ (λ _. false)
unfolding in_set
none_in_zeros n = fun_ext (λ a. ap (λ w. eqb (w / 2 ^ (a % 64) % 2) 1) (zero_at n (a / 64)) ∙ ap (λ w. eqb (w % 2) 1) (zero-div (2 ^ (a % 64))))
  where
    zero_at : (n i : ℕ) → get_or (replicate {A = ℕ} n 0) i 0 ≡ 0
    zero_at zero i = refl
    zero_at (suc n) zero = refl
    zero_at (suc n) (suc i) = zero_at n i

halved : (x j : ℕ) → x / 2 ^ suc j ≡ x / 2 / 2 ^ j
halved x j = ap (λ y. x / y) (pow-succ' 2 j) ∙ sym (div-div-eq-div-mul x 2 (2 ^ j))

-- a power of two has one bit
power_bit : (k j : ℕ) → 2 ^ k / 2 ^ j % 2 ≡ cond (eqb k j) 1 0
power_bit zero zero = refl
power_bit zero (suc j) = rw (eqb-zero-suc j) (ap (λ x. x % 2) (halved 1 j ∙ zero-div (2 ^ j)))
power_bit (suc k) zero = rw (eqb-suc-zero k) (ap (λ x. x % 2) (div-one (2 ^ suc k) ∙ sym (one-mul (2 ^ suc k))) ∙ shifted_even 1 k)
power_bit (suc k) (suc j) =
    ap (λ x. x % 2) (halved (2 ^ suc k) j ∙ ap (λ x. x / 2 ^ j) (ap (λ x. x / 2) (sym (one-mul (2 ^ suc k))) ∙ shifted_half 1 k ∙ one-mul (2 ^ k)))
    ∙ power_bit k j ∙ ap (λ b. cond b 1 0) (sym (eqb-suc-suc k j))

or_bit : (w k j : ℕ) → bit_or w (2 ^ k) / 2 ^ j % 2 ≡ bit_or (w / 2 ^ j % 2) (cond (eqb k j) 1 0)
or_bit w k j = ap (λ x. x % 2) (or_shr w (2 ^ k) j) ∙ or_mod (w / 2 ^ j) (2 ^ k / 2 ^ j) 1 ∙ ap (bit_or (w / 2 ^ j % 2)) (power_bit k j)

-- bit j of a word with bit k put in
bit_put : (w k j : ℕ) → k < 64 → eqb (bit_or w (1 * 2 ^ k % 18446744073709551616) / 2 ^ j % 2) 1 ≡ (eqb k j || eqb (w / 2 ^ j % 2) 1)
bit_put w k j h =
    ap (λ x. eqb (bit_or w x / 2 ^ j % 2) 1) (shl_exact 1 k 64 (omega arith) (omega arith) ∙ one-mul (2 ^ k)) ∙ ap (λ x. eqb x 1) (or_bit w k j)
    ∙ by_test (eqb k j) (w / 2 ^ j % 2) (mod-lt (w / 2 ^ j) (zero-lt-suc 1))
  where
    by_test : (b : Bool) (x : ℕ) → x < 2 → eqb (bit_or x (cond b 1 0)) 1 ≡ (b || eqb x 1)
    by_test true zero h = refl
    by_test true (suc zero) h = refl
    by_test true (suc (suc x)) h = absurd (omega arith)
    by_test false zero h = refl
    by_test false (suc zero) h = refl
    by_test false (suc (suc x)) h = absurd (omega arith)

-- in one word two addresses are equal where their bits are
same_bits : (a b : ℕ) → b / 64 ≡ a / 64 → eqb (a % 64) (b % 64) ≡ eqb a b
same_bits a b q = by_test (eqb a b) refl
  where
    by_test : (t : Bool) → eqb a b ≡ t → eqb (a % 64) (b % 64) ≡ t
    by_test true e = eq-eqb (a % 64) (b % 64) (ap (λ x. x % 64) (eqb-true a b e))
    by_test false e = ne_eqb (a % 64) (b % 64) (λ r. eqb-false a b e (omega arith))

module _ (s : List ℕ) (a : ℕ) (size : length s ≡ 128) (below : a < 8192) where
  inside : a / 64 < length s
  inside = omega arith

  abbrev word : ℕ
  word = bit_or (get_or s (a / 64) 0) (1 * 2 ^ (a % 64) % 18446744073709551616)

  pub put_in_members : (b : ℕ) → in_set (set s (a / 64) word) b ≡ (eqb a b || in_set s b)
  unfolding in_set
  put_in_members b = by_word (eqb (a / 64) (b / 64)) refl
    where
      by_word : (t : Bool) → eqb (a / 64) (b / 64) ≡ t →
          eqb (get_or (set s (a / 64) word) (b / 64) 0 / 2 ^ (b % 64) % 2) 1 ≡ (eqb a b || eqb (get_or s (b / 64) 0 / 2 ^ (b % 64) % 2) 1)
      by_word true e =
          let same : b / 64 ≡ a / 64 = sym (eqb-true (a / 64) (b / 64) e) in
          ap (λ x. eqb (get_or (set s (a / 64) word) x 0 / 2 ^ (b % 64) % 2) 1) same
          ∙ ap (λ x. eqb (x / 2 ^ (b % 64) % 2) 1) (get_or-set_same s (a / 64) word 0 inside)
          ∙ bit_put (get_or s (a / 64) 0) (a % 64) (b % 64) (omega arith)
          ∙ ap₂ (λ t x. t || eqb (get_or s x 0 / 2 ^ (b % 64) % 2) 1) (same_bits a b same) (sym same)
      by_word false e =
          let other : (b / 64 ≡ a / 64) → ⊥ = λ q. eqb-false (a / 64) (b / 64) e (sym q) in
          ap (λ x. eqb (x / 2 ^ (b % 64) % 2) 1) (get_or-set_other s (a / 64) (b / 64) word 0 other)
          ∙ ap (λ t. t || eqb (get_or s (b / 64) 0 / 2 ^ (b % 64) % 2) 1) (sym (ne_eqb a b (λ q. other (ap (λ x. x / 64) (sym q)))))
