-- The effective address by the descriptor segment's words and memory alone, and what forming it answers. Assumes nothing: these are definitions.
use Rattle.std.specs.Prelude.{◌≡◌, Bool, true, cond, List, ℕ, zero, suc, ◌-◌, ◌<◌, ◌≤◌, ltb, length, get_or, Result, Ok, Err}
use Rattle.model.specs.Words as Words
use Rattle.model.specs.Words.{descriptor_in, pointer_in, indirect_in}
use Rattle.model.specs.Registers as Registers
use Rattle.model.specs.Questions.{ask, then_ask, segment_questions, read_questions}
use Rattle.model.specs.Step.{next_address}
use Rattle.words.specs.View.{as_pointer, PointerWithin}
use Rattle.words.specs.declared.descriptor.Descriptor.{Descriptor}
use Rattle.questions.specs.declared.fault.Fault.{Fault}
use Rattle.questions.specs.Numbers.{fault_number}
use Rattle.segments.specs.Translation.{descriptor_word, descriptor_answer, word_through}
use Rattle.addressing.specs.declared.Address.{Address}
use Rattle.addressing.specs.declared.AddressFault.{AddressFault}
use Rattle.addressing.specs.declared.Kept.{Kept}

-- DESCRIPTORS: how many there are, and each one's word. By DBR they lie in memory; a walk is lent their own words
pub record Descriptors : Type 0 where
  pub count : ℕ
  pub word : (segment : ℕ) → ℕ

abbrev pub by_dbr : Registers.Dbr → (memory : List ℕ) → Descriptors
by_dbr b m = record { count = b.length; word = descriptor_word b m }

abbrev pub lent : (words : List ℕ) → Descriptors
lent ws = record { count = length ws; word = λ s. get_or ws s 0 }

-- A POINTER WORD: 11 to 14, of the descriptor's word and how many descriptors there are
unfoldable pub segment_answer : (count size segment descriptor : ℕ) → ℕ
segment_answer c n s d = segment_questions n (record { address = 0; length = c }) s (descriptor_in d)

-- then 15 and 22
unfoldable pub word_answer : Words.Pointer → Words.Descriptor → ℕ
word_answer t d = ask (ltb t.word d.length) 15 (read_questions t d)

unfoldable pub pointer_answer : (count descriptor : ℕ) → (memory : List ℕ) → Words.Pointer → ℕ
pointer_answer c d m t = then_ask (segment_answer c (length m) t.segment d) (word_answer t (descriptor_in d))

-- and where it leads
unfoldable pub pointer_leads : (descriptor : ℕ) → (memory : List ℕ) → Words.Pointer → Words.Pointer
pointer_leads d m t = next_address t (descriptor_in d) (word_through m d t.word)

-- THE CHAIN of at most 64 pointer words, and how many were read
pub data Formed : Type 0 where
  bad : (number : ℕ) → Words.Pointer → (read : ℕ) → Formed
  good : Words.Pointer → (read : ℕ) → Formed

unfoldable pub or_bad : (answer : ℕ) → Words.Pointer → (read : ℕ) → Formed → Formed
or_bad zero t c x = x
or_bad (suc n) t c x = bad (suc n) t c

unfoldable pub read_by : Formed → ℕ
read_by (bad n t c) = c
read_by (good t c) = c

unfoldable pub through : (left : ℕ) → (indirect : Bool) → Descriptors → (memory : List ℕ) → Words.Pointer → Formed
through zero i ds m t = cond i (bad 31 t 64) (good t 64)
through (suc n) i ds m t =
    let d = ds.word t.segment in
    let next = through n (indirect_in (word_through m d t.word)) ds m (pointer_leads d m t) in
    cond i (or_bad (pointer_answer ds.count d m t) t (64 - suc n) next) (good t (64 - suc n))

abbrev pub as_formed : Result Address AddressFault → Formed
as_formed (Err f) = bad (fault_number f.fault) (as_pointer f.pointer) f.read
as_formed (Ok a) = good (as_pointer a.pointer) a.read

abbrev pub AddressWithin : Result Address AddressFault → Type 0
AddressWithin (Err f) = Unit {0}
AddressWithin (Ok a) = PointerWithin a.pointer

pub record Walked (ds : Descriptors) (m : List ℕ) (t : Words.Pointer) (x : Result Address AddressFault) : Type 0 where
  pub same : as_formed x ≡ through 64 true ds m t
  pub within : AddressWithin x

abbrev pub Addressed : Registers.Dbr → (memory : List ℕ) → Words.Pointer → Result Address AddressFault → Type 0
Addressed b m t x = Walked (by_dbr b m) m t x

-- ON THE WAY: TPR is a pointer word and a ring
unfoldable pub tpr_of : (word ring : ℕ) → Words.Pointer
tpr_of w n = record { ring = n; segment = (pointer_in w).segment; word = (pointer_in w).word }

-- a descriptor that has passed 11 to 14 for its segment
pub record Right (words : List ℕ) (size segment descriptor : ℕ) : Type 0 where
  pub inside : segment < length words
  pub same : descriptor ≡ get_or words segment 0
  pub passes : descriptor_answer size descriptor ≡ 0

abbrev pub looked : (words : List ℕ) → (size segment : ℕ) → Result Descriptor Fault → Type 0
looked ws n s (Err e) = segment_answer (length ws) n s (get_or ws s 0) ≡ fault_number e
looked ws n s (Ok d) = Right ws n s d.0

-- what is kept has passed, where it is a segment's at all
pub record KeptRight (words : List ℕ) (size : ℕ) (k : Kept) : Type 0 where
  pub first : k.first.number ≤ 4095 → Right words size k.first.number k.first.descriptor.0
  pub second : k.second.number ≤ 4095 → Right words size k.second.number k.second.descriptor.0

-- and then the segment asked for is first
abbrev pub found : (words : List ℕ) → (size segment : ℕ) → Result Kept Fault → Type 0
found ws n s (Err e) = segment_answer (length ws) n s (get_or ws s 0) ≡ fault_number e
found ws n s (Ok k) = Right ws n s k.first.descriptor.0 × KeptRight ws n k

-- 15 and 22 have passed as well
abbrev pub asked : (words : List ℕ) → (size : ℕ) → Words.Pointer → Result Kept Fault → Type 0
asked ws n t (Err e) = then_ask (segment_answer (length ws) n t.segment (get_or ws t.segment 0)) (word_answer t (descriptor_in (get_or ws t.segment 0))) ≡ fault_number e
asked ws n t (Ok k) = Right ws n t.segment k.first.descriptor.0 × (word_answer t (descriptor_in k.first.descriptor.0) ≡ 0) × KeptRight ws n k
