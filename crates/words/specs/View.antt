-- The code's pointers as the model's. Assumes nothing: these are definitions.
use Rattle.std.specs.Prelude.{◌≡◌, ℕ, ◌≤◌}
use Rattle.model.specs.Words as Words
use Rattle.words.specs.declared.pointer.Pointer.{Pointer}

abbrev pub as_pointer : Pointer → Words.Pointer
as_pointer p = record { ring = p.ring; segment = p.segment.0; word = p.word.0 }

-- its fields fit a pointer word
pub record PointerWithin (p : Pointer) : Type 0 where
  pub ring_within : p.ring ≤ 7
  pub segment_within : p.segment.0 ≤ 4095
  pub word_within : p.word.0 ≤ 65535

-- what decoding a word gives: the definition's value, and the bounds that callers need
pub record DecodedPointer (w : ℕ) (p : Pointer) : Type 0 where
  pub same : as_pointer p ≡ Words.pointer_in w
  pub within : PointerWithin p
