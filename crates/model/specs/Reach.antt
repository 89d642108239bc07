-- 01, 'Words and registers': the descriptor words, and the words that some ring at or above n can observe or write. Assumes nothing: these are definitions.
use Rattle.std.specs.Prelude.{◌≡◌, Bool, false, ◌&&◌, ◌||◌, ℕ, zero, suc, ◌+◌, ◌<◌, ltb, leb, eqb, length, get_or}
use Rattle.model.specs.Words.{Descriptor}
use Rattle.model.specs.Registers.{Machine}
use Rattle.model.specs.Questions.{segment_questions}
use Rattle.model.specs.Program.{descriptor_of}

-- the descriptor words are the LENGTH words from DBR's ADDRESS, as far as memory has them
unfoldable pub is_descriptor_word : Machine → (address : ℕ) → Bool
is_descriptor_word m x =
    let b = m.registers.dbr in ltb x (length m.memory) && (leb b.address x && ltb x (b.address + b.length))

-- two machines with one descriptor segment: equal DBRs, memories of one length, and equal descriptor words
pub record SameDescriptors (m k : Machine) : Type 0 where
  pub same_dbr : m.registers.dbr ≡ k.registers.dbr
  pub same_length : length m.memory ≡ length k.memory
  pub same_descriptor_words : (s : ℕ) → s < m.registers.dbr.length →
      get_or m.memory (m.registers.dbr.address + s) 0 ≡ get_or k.memory (m.registers.dbr.address + s) 0

-- a descriptor covers the LENGTH words from its own ADDRESS
unfoldable pub covers : Descriptor → (address : ℕ) → Bool
covers d x = leb d.address x && ltb x (d.address + d.length)

-- its descriptor passes 11 to 14
unfoldable pub segment_passes : Machine → (segment : ℕ) → Bool
segment_passes m s = eqb (segment_questions (length m.memory) m.registers.dbr s (descriptor_of m s)) 0

-- readable or executable through segment s: R or E on and R2 ≥ n
unfoldable pub observable_through : (ring : ℕ) → Machine → (address segment : ℕ) → Bool
observable_through n m x s =
    let d = descriptor_of m s in segment_passes m s && (covers d x && ((d.read || d.execute) && leb n d.r2))

-- writable through segment s: W on and R1 ≥ n
unfoldable pub writable_through : (ring : ℕ) → Machine → (address segment : ℕ) → Bool
writable_through n m x s = let d = descriptor_of m s in segment_passes m s && (covers d x && (d.write && leb n d.r1))

-- does a number below `bound` have it?
unfoldable pub some_below : (bound : ℕ) → (ℕ → Bool) → Bool
some_below zero f = false
some_below (suc n) f = f n || some_below n f

unfoldable pub observable : (ring : ℕ) → Machine → (address : ℕ) → Bool
observable n m x = some_below m.registers.dbr.length (observable_through n m x)

unfoldable pub writable : (ring : ℕ) → Machine → (address : ℕ) → Bool
writable n m x = some_below m.registers.dbr.length (writable_through n m x)
