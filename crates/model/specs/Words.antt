-- 01, 'Words and registers': fields, and the descriptor, pointer and instruction words. Assumes nothing: these are definitions.
use Rattle.std.specs.Prelude.{Bool, ℕ, ◌+◌, ◌*◌, ◌/◌, ◌%◌, ◌^◌, eqb}

-- the field of `width` bits from bit `at` up; bit 0 is the lowest
unfoldable pub field : (at width word : ℕ) → ℕ
field a n w = w / 2 ^ a % 2 ^ n

unfoldable pub on : (at word : ℕ) → Bool
on a w = eqb (field a 1 w) 1

-- Descriptor
pub record Descriptor : Type 0 where
  pub address : ℕ
  pub length : ℕ
  pub r1 : ℕ
  pub r2 : ℕ
  pub r3 : ℕ
  pub read : Bool
  pub write : Bool
  pub execute : Bool
  pub valid : Bool
  pub gate : ℕ

unfoldable pub descriptor_in : (word : ℕ) → Descriptor
descriptor_in w =
    record {
      address = field 0 24 w;
      length = field 24 16 w;
      r1 = field 40 3 w;
      r2 = field 43 3 w;
      r3 = field 46 3 w;
      read = on 49 w;
      write = on 50 w;
      execute = on 51 w;
      valid = on 52 w;
      gate = field 53 11 w;
    }

-- RING, SEGNO and WORDNO: a pointer word's, and what IPR, each PR and TPR hold
pub record Pointer : Type 0 where
  pub ring : ℕ
  pub segment : ℕ
  pub word : ℕ

-- Pointer word: read (bits 32-63 are ignored), its I, and as it is written (I off, bits 32-63 zero)
unfoldable pub pointer_in : (word : ℕ) → Pointer
pointer_in w = record { ring = field 28 3 w; segment = field 16 12 w; word = field 0 16 w }

unfoldable pub indirect_in : (word : ℕ) → Bool
indirect_in w = on 31 w

unfoldable pub pointer_word : Pointer → ℕ
pointer_word p = p.word + 2 ^ 16 * p.segment + 2 ^ 28 * p.ring

-- Instruction
pub record Instruction : Type 0 where
  pub offset : ℕ
  pub prnum : ℕ
  pub p : Bool
  pub i : Bool
  pub reg : ℕ
  pub opcode : ℕ
  pub lit : ℕ

unfoldable pub instruction_in : (word : ℕ) → Instruction
instruction_in w =
    record {
      offset = field 0 16 w;
      prnum = field 16 3 w;
      p = on 19 w;
      i = on 20 w;
      reg = field 21 3 w;
      opcode = field 24 8 w;
      lit = field 32 32 w;
    }
