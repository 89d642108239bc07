-- Fields stay within their widths, a pointer word reads back as it was written, and A's operations stay within a word. Assumes nothing.
use mathlib.Core.Path.{◌≡◌}
use mathlib.Core.Bool.{true, false, ◌&&◌}
use Prim.Native.Nat.{ℕ, zero, suc, ◌+◌, ◌*◌, ◌/◌, ◌%◌, ◌^◌, ◌≤◌, ◌<◌}
use native.Mathlib.Nat.{mod-lt, pow-succ', one-le-pow}
use native.Mathlib.Omega.{arith}
use lib.Dec.{leb}
use borrow.Author.Tests.{leb-true, le-leb, ne_eqb}
use Rattle.model.specs.Words.{field, on, Pointer, pointer_in, indirect_in, pointer_word}
use Rattle.model.specs.Opcodes.{bitwise, count_of_ones}
use Rattle.model.specs.Questions.{pointer_in_range}
use Rattle.model.proofs.BranchLaws.{and_left, and_right, and_both}

two_pow_positive : (n : ℕ) → 0 < 2 ^ n
two_pow_positive n = one-le-pow n 2 (omega arith)

pub field_within_width : (at width word : ℕ) → field at width word < 2 ^ width
unfolding field
field_within_width a n w = mod-lt (w / 2 ^ a) (two_pow_positive n)

-- POINTERS
pub record Within (p : Pointer) : Type 0 where
  pub ring_within : p.ring ≤ 7
  pub segment_within : p.segment ≤ 4095
  pub word_within : p.word ≤ 65535

pub in_range_within : (p : Pointer) → pointer_in_range p ≡ true → Within p
unfolding pointer_in_range
in_range_within p e =
    let x = and_right (leb p.ring 7) (leb p.segment 4095 && leb p.word 65535) e in
    record {
      ring_within = leb-true _ _ (and_left (leb p.ring 7) _ e);
      segment_within = leb-true _ _ (and_left (leb p.segment 4095) _ x);
      word_within = leb-true _ _ (and_right (leb p.segment 4095) _ x);
    }

pub within_in_range : (p : Pointer) → Within p → pointer_in_range p ≡ true
unfolding pointer_in_range
within_in_range p h =
    and_both (leb p.ring 7) (leb p.segment 4095 && leb p.word 65535) (le-leb _ _ h.ring_within)
    (and_both (leb p.segment 4095) (leb p.word 65535) (le-leb _ _ h.segment_within) (le-leb _ _ h.word_within))

pub pointer_in_within : (w : ℕ) → Within (pointer_in w)
unfolding pointer_in
pointer_in_within w =
    let x = field_within_width 28 3 w in
    let y = field_within_width 16 12 w in
    let z = field_within_width 0 16 w in
    record { ring_within = omega arith; segment_within = omega arith; word_within = omega arith }

pub pointer_word_within : (p : Pointer) → Within p → pointer_word p < 2 ^ 31
unfolding pointer_word
pointer_word_within p h =
    let x = h.ring_within in let y = h.segment_within in let z = h.word_within in omega arith

-- what SPP writes reads back as the pointer, I off
pub pointer_word_reads_back : (p : Pointer) → Within p → pointer_in (pointer_word p) ≡ p
unfolding pointer_in pointer_word field
pointer_word_reads_back p h =
    let x = h.ring_within in
    let y = h.segment_within in
    let z = h.word_within in
    λ i. record { ring = ring_same x y z i; segment = segment_same x y z i; word = word_same x y z i }
  where
    w : ℕ
    w = p.word + 2 ^ 16 * p.segment + 2 ^ 28 * p.ring

    ring_same : p.ring ≤ 7 → p.segment ≤ 4095 → p.word ≤ 65535 → w / 2 ^ 28 % 2 ^ 3 ≡ p.ring
    ring_same x y z = omega arith

    segment_same : p.ring ≤ 7 → p.segment ≤ 4095 → p.word ≤ 65535 → w / 2 ^ 16 % 2 ^ 12 ≡ p.segment
    segment_same x y z = omega arith

    word_same : p.ring ≤ 7 → p.segment ≤ 4095 → p.word ≤ 65535 → w / 2 ^ 0 % 2 ^ 16 ≡ p.word
    word_same x y z = omega arith

pub pointer_word_not_indirect : (p : Pointer) → Within p → indirect_in (pointer_word p) ≡ false
unfolding indirect_in on field
pointer_word_not_indirect p h =
    let x = pointer_word_within p h in ne_eqb _ _ (λ e. zero_not_one (pointer_word p) x e)
  where
    zero_not_one : (w : ℕ) → w < 2 ^ 31 → w / 2 ^ 31 % 2 ^ 1 ≡ 1 → ⊥
    zero_not_one w x e = omega arith

-- A'S OPERATIONS
pub bitwise_within : (f : ℕ → ℕ → ℕ) → ((x y : ℕ) → x < 2 → y < 2 → f x y < 2) → (n a b : ℕ) → bitwise n f a b < 2 ^ n
unfolding bitwise
bitwise_within f h zero a b = omega arith
bitwise_within f h (suc n) a b =
    let x = h (a % 2) (b % 2) (omega arith) (omega arith) in
    let y = bitwise_within f h n (a / 2) (b / 2) in
    rw (pow-succ' 2 n) (omega arith)

pub ones_at_most : (n w : ℕ) → count_of_ones n w ≤ n
unfolding count_of_ones
ones_at_most zero w = omega arith
ones_at_most (suc n) w = let x = ones_at_most n (w / 2) in omega arith
