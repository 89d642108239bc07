-- One descriptor segment, seen from two machines: each question has the same answer in both. Assumes nothing.
use mathlib.Core.Path.{◌≡◌, refl, ◌∙◌, ap, ap₂}
use mathlib.Core.Bool.{Bool, true, false, ◌&&◌, ◌||◌}
use Prim.Native.Nat.{ℕ, ◌+◌, ◌<◌}
use native.Mathlib.Omega.{arith}
use lib.Dec.{ltb, leb, eqb}
use lib.ListN.{length, get_or}
use borrow.Author.Tests.{ltb-true, eqb-true, le-leb, lt-ltb}
use Rattle.model.specs.Words.{Descriptor, descriptor_in, Pointer}
use Rattle.model.specs.Registers.{Dbr, Machine}
use Rattle.model.specs.Questions.{ask, Question, segment_questions, use_questions}
use Rattle.model.specs.Program.{descriptor_of, absolute_address, use_answer}
use Rattle.model.specs.Reach.{is_descriptor_word, SameDescriptors, covers, segment_passes, observable_through, writable_through}
use Rattle.model.proofs.BranchLaws.{and_both, and_same}
use Rattle.model.proofs.QuestionLaws.{then_ask_same, segment_known, use_passes_segment, word_within_segment}
use Rattle.model.proofs.ProgramLaws.{UsePasses}

-- 11 to 14 of a segment
unfoldable pub segment_answer : Machine → (segment : ℕ) → ℕ
segment_answer m s = segment_questions (length m.memory) m.registers.dbr s (descriptor_of m s)

pub use_passes_known : (m : Machine) (t : Pointer) → UsePasses m t → t.segment < m.registers.dbr.length
unfolding UsePasses
use_passes_known m t e = segment_known _ _ _ _ (use_passes_segment _ _ _ _ e)

pub use_passes_covers : (m : Machine) (t : Pointer) → UsePasses m t → covers (descriptor_of m t.segment) (absolute_address m t) ≡ true
unfolding UsePasses covers absolute_address
use_passes_covers m t e =
    let d = descriptor_of m t.segment in
    let h = word_within_segment _ _ _ _ e in
    and_both (leb d.address (d.address + t.word)) (ltb (d.address + t.word) (d.address + d.length)) (omega (arith, le-leb)) (omega (arith, lt-ltb))

-- the descriptor of a segment below DBR's LENGTH is a descriptor word, if memory has it
pub is_descriptor_word_of : (m : Machine) (s : ℕ) → s < m.registers.dbr.length → m.registers.dbr.address + s < length m.memory →
    is_descriptor_word m (m.registers.dbr.address + s) ≡ true
unfolding is_descriptor_word
is_descriptor_word_of m s h i =
    let b = m.registers.dbr in
    and_both (ltb (b.address + s) (length m.memory)) _ (omega (arith, lt-ltb))
    (and_both (leb b.address (b.address + s)) (ltb (b.address + s) (b.address + b.length)) (omega (arith, le-leb)) (omega (arith, lt-ltb)))

module _ {m k : Machine} (same : SameDescriptors m k) where
  pub same_descriptor : (s : ℕ) → s < m.registers.dbr.length → descriptor_of m s ≡ descriptor_of k s
  unfolding descriptor_of
  same_descriptor s h = ap descriptor_in (same.same_descriptor_words s h ∙ ap (λ (b : Dbr). get_or k.memory (b.address + s) 0) same.same_dbr)

  pub same_segment_answer : (s : ℕ) → segment_answer m s ≡ segment_answer k s
  unfolding segment_answer segment_questions ask
  same_segment_answer s =
      by_test (ltb s m.registers.dbr.length) refl ∙ ap₂ (λ l b. segment_questions l b s (descriptor_of k s)) same.same_length same.same_dbr
    where
      by_test : (t : Bool) → ltb s m.registers.dbr.length ≡ t →
          segment_answer m s ≡ segment_questions (length m.memory) m.registers.dbr s (descriptor_of k s)
      by_test true e = ap (segment_questions (length m.memory) m.registers.dbr s) (same_descriptor s (ltb-true _ _ e))
      by_test false e = rw e

  pub same_use_questions : (t : Pointer) →
      use_questions (length m.memory) m.registers.dbr t (descriptor_of m t.segment)
      ≡ use_questions (length k.memory) k.registers.dbr t (descriptor_of k t.segment)
  unfolding use_questions segment_answer
  same_use_questions t = then_ask_same (same_segment_answer t.segment) (λ e. rw (same_descriptor t.segment (segment_known _ _ _ _ e)))

  pub same_use_answer : (t : Pointer) (q : Question) → use_answer m t q ≡ use_answer k t q
  unfolding use_answer UsePasses
  same_use_answer t q = then_ask_same (same_use_questions t) (λ e. ap q (same_descriptor t.segment (use_passes_known m t e)))

  pub same_absolute_address : (t : Pointer) → UsePasses m t → absolute_address m t ≡ absolute_address k t
  unfolding absolute_address
  same_absolute_address t e = ap (λ d. d.address + t.word) (same_descriptor t.segment (use_passes_known m t e))

  -- so a test of a descriptor that passes has the same answer
  pub same_passed_test : (f : Descriptor → Bool) (s : ℕ) →
      (segment_passes m s && f (descriptor_of m s)) ≡ (segment_passes k s && f (descriptor_of k s))
  unfolding segment_passes segment_answer
  same_passed_test f s =
      and_same (segment_passes m s) (segment_passes k s) _ _ (ap (λ c. eqb c 0) (same_segment_answer s))
      (λ e. ap f (same_descriptor s (segment_known _ _ _ _ (eqb-true _ _ e))))

  -- and the same words are observable and writable from ring n
  pub same_observable_through : (n x s : ℕ) → observable_through n m x s ≡ observable_through n k x s
  unfolding observable_through
  same_observable_through n x s = same_passed_test (λ d. covers d x && ((d.read || d.execute) && leb n d.r2)) s

  pub same_writable_through : (n x s : ℕ) → writable_through n m x s ≡ writable_through n k x s
  unfolding writable_through
  same_writable_through n x s = same_passed_test (λ d. covers d x && (d.write && leb n d.r1)) s
