-- Statements on descriptors of the old benches (02, L9): a word by its fields, a segment word by word, and both ways round. Assumes nothing: these are definitions.
use Rattle.std.specs.Prelude.{◌≡◌, true, cond, List, ℕ, ◌+◌, ◌^◌, ◌≤◌, ◌<◌, length, get_or}
use Rattle.model.specs.Words.{Descriptor, descriptor_in}
use Rattle.model.specs.Registers.{Dbr}
use Rattle.model.specs.Questions.{segment_questions}
use Rattle.model.specs.Old.{OldDescriptor, old_descriptor_in, Way, from_old, to_old, form_questions, renewed_word, old_word, converted_word, convert_words}

-- A WORD BY ITS FIELDS: one of today's has an old one's fields, and the rings that its user says
pub record FieldsOfOld (o : OldDescriptor) (d : Descriptor) : Type 0 where
  pub same_address : d.address ≡ o.address
  pub same_length : d.length ≡ o.length
  pub same_read : d.read ≡ o.read
  pub same_write : d.write ≡ o.write
  pub same_execute : d.execute ≡ o.execute
  pub r1_by_user : d.r1 ≡ cond o.user 4 0
  pub r2_by_user : d.r2 ≡ cond o.user 4 0
  pub r3_by_user : d.r3 ≡ cond o.user 4 0
  pub is_valid : d.valid ≡ true
  pub no_gate : d.gate ≡ 0

abbrev pub RenewedByFields : Type 0
RenewedByFields = (w : ℕ) → FieldsOfOld (old_descriptor_in w) (descriptor_in (renewed_word w))

abbrev pub OldByFields : Type 0
OldByFields = (w : ℕ) → form_questions to_old w ≡ 0 → FieldsOfOld (old_descriptor_in (old_word w)) (descriptor_in w)

-- put to 12 and 13, a converted word passes: 11 and 14 are all that may be a no
abbrev pub RenewedPasses : Type 0
RenewedPasses =
    (n : ℕ) (b : Dbr) (s w : ℕ) → s < b.length → (descriptor_in (renewed_word w)).address + (descriptor_in (renewed_word w)).length ≤ n →
    segment_questions n b s (descriptor_in (renewed_word w)) ≡ 0

-- A SEGMENT that converts: every word had a yes, and became what it becomes by itself
pub record AllConverted (y : Way) (ws : List ℕ) : Type 0 where
  pub no_index : (convert_words y ws).answer.index ≡ 0
  pub as_many : length (convert_words y ws).words ≡ length ws
  pub each_passes : (k : ℕ) → k < length ws → form_questions y (get_or ws k 0) ≡ 0
  pub each_word : (k : ℕ) → k < length ws → get_or (convert_words y ws).words k 0 ≡ converted_word y (get_or ws k 0)

abbrev pub SegmentConverts : Type 0
SegmentConverts = (y : Way) (ws : List ℕ) → (convert_words y ws).answer.number ≡ 0 → AllConverted y ws

-- one that doesn't keeps every word, and the index is the lowest that fails
pub record FirstFailing (y : Way) (ws : List ℕ) : Type 0 where
  pub nothing_written : (convert_words y ws).words ≡ ws
  pub index_within : (convert_words y ws).answer.index < length ws
  pub it_fails : form_questions y (get_or ws (convert_words y ws).answer.index 0) ≡ (convert_words y ws).answer.number
  pub none_below : (k : ℕ) → k < (convert_words y ws).answer.index → form_questions y (get_or ws k 0) ≡ 0

abbrev pub SegmentRefused : Type 0
SegmentRefused = (y : Way) (ws : List ℕ) → ((convert_words y ws).answer.number ≡ 0 → ⊥) → FirstFailing y ws

-- BOTH WAYS ROUND, a segment of 64-bit words that converts comes back the same
unfoldable pub way_back : Way → Way
way_back from_old = to_old
way_back to_old = from_old

abbrev pub ComesBack : Type 0
ComesBack =
    (y : Way) (ws : List ℕ) → ((k : ℕ) → get_or ws k 0 < 2 ^ 64) → (convert_words y ws).answer.number ≡ 0 →
    convert_words (way_back y) (convert_words y ws).words ≡ record { answer = record { number = 0; index = 0 }; words = ws }
