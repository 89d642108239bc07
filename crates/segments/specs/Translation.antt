-- What a use of a segment answers, by DBR and memory alone: 11 to 15, the questions of the use, and the access. Assumes nothing: these are definitions.
use Rattle.std.specs.Prelude.{◌≡◌, true, List, ℕ, ◌+◌, ◌<◌, ◌≤◌, length, get_or, set, Result, Ok, Err}
use Rattle.model.specs.Words as Words
use Rattle.model.specs.Words.{descriptor_in}
use Rattle.model.specs.Registers as Registers
use Rattle.model.specs.Questions.{Question, then_ask, segment_questions, word_questions, use_questions, may_execute}
use Rattle.words.specs.declared.descriptor.Descriptor.{Descriptor}
use Rattle.questions.specs.declared.fault.Fault.{Fault}
use Rattle.questions.specs.Numbers.{fault_number}
use Rattle.segments.specs.declared.translate.Dbr.{Dbr}
use Rattle.segments.specs.declared.access.ReadWord.{ReadWord}

abbrev pub as_dbr : Dbr → Registers.Dbr
as_dbr d = record { address = d.address; length = d.length }

-- the model's `descriptor_of` reads a machine's DBR and memory and nothing else
unfoldable pub descriptor_word : Registers.Dbr → (memory : List ℕ) → (segment : ℕ) → ℕ
descriptor_word b m s = get_or m (b.address + s) 0

abbrev pub descriptor_at : Registers.Dbr → (memory : List ℕ) → (segment : ℕ) → Words.Descriptor
descriptor_at b m s = descriptor_in (descriptor_word b m s)

-- 12 to 14 of a descriptor's word: the questions on a segment that 11 lets by
unfoldable pub descriptor_answer : (size word : ℕ) → ℕ
descriptor_answer n w = segment_questions n (record { address = 0; length = 1 }) 0 (descriptor_in w)

-- then 15
unfoldable pub word_answer : (size descriptor word : ℕ) → ℕ
word_answer n w i = then_ask (descriptor_answer n w) (word_questions i (descriptor_in w))

-- what a passed descriptor leads to: a segment within memory, and a word of that segment
pub record SegmentFits (x : Result Descriptor Fault) (size : ℕ) : Type 0 where
  pub fits : (d : Descriptor) → x ≡ Ok d → (descriptor_in d.0).address + (descriptor_in d.0).length ≤ size

pub record SegmentHolds (x : Result Descriptor Fault) (word : ℕ) : Type 0 where
  pub inside : (d : Descriptor) → x ≡ Ok d → word < (descriptor_in d.0).length

-- and that it has passed 12 to 14 in a memory of that size, and the questions of the use
pub record SegmentRight (x : Result Descriptor Fault) (q : Question) (size : ℕ) : Type 0 where
  pub right : (d : Descriptor) → x ≡ Ok d → descriptor_answer size d.0 ≡ 0
  pub asked : (d : Descriptor) → x ≡ Ok d → q (descriptor_in d.0) ≡ 0

-- 11 to 15, then the questions of the use
unfoldable pub use_at : Registers.Dbr → (memory : List ℕ) → Words.Pointer → ℕ
use_at b m t = use_questions (length m) b t (descriptor_at b m t.segment)

unfoldable pub use_by : Registers.Dbr → (memory : List ℕ) → Words.Pointer → Question → ℕ
use_by b m t q = then_ask (use_at b m t) (q (descriptor_at b m t.segment))

-- a descriptor that passes 11 to 15 for the pointer, with what this says of its word
pub record Passes (b : Registers.Dbr) (m : List ℕ) (t : Words.Pointer) (d : ℕ) : Type 0 where
  pub passes : use_at b m t ≡ 0
  pub same : d ≡ descriptor_word b m t.segment
  pub right : descriptor_answer (length m) d ≡ 0
  pub inside : t.word < (descriptor_in d).length
  pub fits : (descriptor_in d).address + (descriptor_in d).length ≤ length m

-- A DESCRIPTOR by 11 to 15: the first no, or the descriptor
abbrev pub translated : Registers.Dbr → (memory : List ℕ) → Words.Pointer → Result Descriptor Fault → Type 0
translated b m t (Err e) = use_at b m t ≡ fault_number e
translated b m t (Ok d) = Passes b m t d.0

-- A LOOK at the descriptor, with the questions of the use
pub record Looks (b : Registers.Dbr) (m : List ℕ) (t : Words.Pointer) (q : Question) (d : ℕ) : Type 0 where
  pub found : Passes b m t d
  pub asked : q (descriptor_in d) ≡ 0

abbrev pub looked : Registers.Dbr → (memory : List ℕ) → Words.Pointer → Question → Result Descriptor Fault → Type 0
looked b m t q (Err e) = use_by b m t q ≡ fault_number e
looked b m t q (Ok d) = Looks b m t q d.0

-- A WORD READ
unfoldable pub word_through : (memory : List ℕ) → (descriptor word : ℕ) → ℕ
word_through m d i = get_or m ((descriptor_in d).address + i) 0

pub record Reads (b : Registers.Dbr) (m : List ℕ) (t : Words.Pointer) (q : Question) (d w : ℕ) : Type 0 where
  pub looks : Looks b m t q d
  pub word_same : w ≡ word_through m d t.word

abbrev pub accessed : Registers.Dbr → (memory : List ℕ) → Words.Pointer → Question → Result ReadWord Fault → Type 0
accessed b m t q (Err e) = use_by b m t q ≡ fault_number e
accessed b m t q (Ok w) = Reads b m t q w.descriptor.0 w.word

-- A WORD WRITTEN, or the first no and memory as it was
pub record Writes (b : Registers.Dbr) (m : List ℕ) (t : Words.Pointer) (q : Question) (value answer : ℕ) (m_now : List ℕ) : Type 0 where
  pub asked : use_by b m t q ≡ answer
  pub kept : (answer ≡ 0 → ⊥) → m_now ≡ m
  pub stored : answer ≡ 0 → m_now ≡ set m ((descriptor_at b m t.segment).address + t.word) value

-- a descriptor's word that passes 12 to 14 in a memory of that size, of a segment that the ring may execute: facts on numbers alone, which nothing that a step does to memory can undo
pub record CodeRight (word ring size : ℕ) : Type 0 where
  pub passes : descriptor_answer size word ≡ 0
  pub executable : (t : Words.Pointer) → t.ring ≡ ring → may_execute t (descriptor_in word) ≡ true
