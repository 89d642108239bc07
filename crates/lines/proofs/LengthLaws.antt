-- No line of numbers that the code holds is longer than 64 bytes. Assumes nothing.
use mathlib.Core.List.{List, [], ◌∷◌, ◌++◌}
use Prim.Native.Nat.{ℕ, suc, ◌+◌, ◌^◌, ◌≤◌, ◌<◌}
use native.Mathlib.Omega.{arith}
use lib.ListN.{length, length-append}
use Rattle.model.specs.Words.{Pointer}
use Rattle.model.specs.Run.{Reply, refused, spent, halted, fault, Traced}
use Rattle.model.specs.Listing.{ascii, decimal, line, step_line, refusal_line, last_line}
use Rattle.text.proofs.DecimalLaws.{length_decimal_most}
use Rattle.parts.proofs.PartLaws.{ended}
use Rattle.lines.proofs.LineLaws.{length_of_step_line}

-- what the code's types and `Pointer_within` say of a pointer, and of a reply's numbers
pub record SmallPointer (p : Pointer) : Type 0 where
  pub ring_small : p.ring ≤ 7
  pub segment_small : p.segment ≤ 4095
  pub word_small : p.word < 65536

abbrev pub SmallReply : Reply → Type 0
SmallReply (refused n) = n < 256
SmallReply (spent c) = c < 4294967296
SmallReply (halted c) = c < 4294967296
SmallReply (fault n c p) = (n < 256) × (c < 4294967296) × SmallPointer p

-- a number below 10 ^ suc k, with the byte that ends it
length_ended : (k v y : ℕ) → v < 10 ^ suc k → length (ended v y) ≤ suc (suc k)
length_ended k v y h = omega (arith, length-append (decimal v) (y ∷ []), length_decimal_most k v h)

step_line_within : (k n : ℕ) (x : Traced) → n < 4294967296 → SmallPointer x.ipr → x.pointers < 10 ^ suc k → length (step_line n x) ≤ 26 + k
step_line_within k n x h s t =
    omega (
      arith,
      length_of_step_line n x,
      length_decimal_most 9 n (omega arith),
      length_decimal_most 0 x.ipr.ring (omega arith),
      length_decimal_most 3 x.ipr.segment (omega arith),
      length_decimal_most 4 x.ipr.word (omega arith),
      length_decimal_most k x.pointers t,
    )

pub length_step_line : (n : ℕ) (x : Traced) → n < 4294967296 → SmallPointer x.ipr → x.pointers ≤ 64 → length (step_line n x) ≤ 64
length_step_line n x h s t = omega (arith, step_line_within 1 n x h s (omega arith))

-- a count and a total
length_counted : (c k : ℕ) → c < 4294967296 → k < 18446744073709551616 → length (ended c 32 ++ ended k 10) ≤ 32
length_counted c k h t =
    omega (arith, length-append (ended c 32) (ended k 10), length_ended 9 c 32 (omega arith), length_ended 19 k 10 (omega arith))

pub length_last_line : (r : Reply) (k : ℕ) → SmallReply r → k < 18446744073709551616 → length (last_line r k) ≤ 64
unfolding last_line refusal_line step_line line ascii
length_last_line (refused n) k h t = omega (arith, length_ended 2 n 10 (omega arith))
length_last_line (spent c) k h t = omega (arith, length_counted c k h t)
length_last_line (halted c) k h t = omega (arith, length_counted c k h t)
length_last_line (fault n c p) k h t =
    let after : List ℕ = step_line c (record { ipr = p; pointers = k }) in
    omega (
      arith,
      length-append (ended n 32) after,
      length_ended 2 n 32 (omega arith),
      step_line_within 19 c (record { ipr = p; pointers = k }) h.1 h.2 (omega arith),
    )
