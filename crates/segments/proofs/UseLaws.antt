-- What a use's answer says of the model: one law for each node of a program. Assumes nothing.
use Rattle.std.proofs.Common.{◌≡◌, sym, refl, ◌∙◌, List, ℕ, ◌+◌, length, set, Result, Ok, Err, arith}
use Rattle.model.specs.Words as Words
use Rattle.model.specs.Words.{Pointer, descriptor_in}
use Rattle.model.specs.Registers.{Dbr, Registers, Machine, machine}
use Rattle.model.specs.Questions.{then_ask, Question}
use Rattle.model.specs.Program.{Program, look, read, write, Outcome, faults, completes, execute, descriptor_of, absolute_address, word_at, use_answer, or_fault, ticks}
use Rattle.model.proofs.TickLaws.{unless_fault_no, unless_fault_yes}
use Rattle.model.proofs.ProgramLaws.{or_fault_no, or_fault_yes}
use Rattle.words.specs.declared.descriptor.Descriptor.{Descriptor}
use Rattle.questions.specs.declared.fault.Fault.{Fault}
use Rattle.questions.specs.Numbers.{fault_number}
use Rattle.questions.proofs.NumberLaws.{fault_from_one}
use Rattle.segments.proofs.TranslateLaws.{then_ask_no}
use Rattle.segments.specs.Translation.{descriptor_word, SegmentRight, use_at, use_by, Passes, Looks, looked, word_through, accessed, Writes}
use Rattle.segments.specs.declared.access.ReadWord.{ReadWord}

-- A LOOK: the questions of the use are asked of what 11 to 15 have answered
module _ (b : Dbr) (m : List ℕ) (t : Pointer) (q : Question) where
  pub translate_refuses : (e : Fault) → use_at b m t ≡ fault_number e → use_by b m t q ≡ fault_number e
  unfolding use_by
  translate_refuses e h = rw h (then_ask_no (fault_number e) _ (fault_from_one e))

  module _ (d : ℕ) (s : Passes b m t d) where
    pub use_refuses : (e : Fault) → fault_number e ≡ q (descriptor_in d) → use_by b m t q ≡ fault_number e
    unfolding use_by then_ask
    use_refuses e h = rw (s.passes, ← s.same, h)

    pub use_passes : 0 ≡ q (descriptor_in d) → Looks b m t q d
    use_passes h = record { found = s; asked = sym h }

  pub looks_passes : (d : ℕ) → Looks b m t q d → use_by b m t q ≡ 0
  unfolding use_by then_ask
  looks_passes d s = rw (s.found.passes, ← s.found.same, s.asked)

  pub looked_right : (x : Result Descriptor Fault) → looked b m t q x → SegmentRight x q (length m)
  looked_right x s = record { right = λ d e. (rw e at s).found.right; asked = λ d e. (rw e at s).asked }

  -- and an access that follows
  module _ (v : ℕ) where
    pub write_refuses : (e : Fault) → use_by b m t q ≡ fault_number e → Writes b m t q v (fault_number e) m
    write_refuses e h =
        record { asked = h; kept = λ _. refl; stored = λ z. let k = fault_from_one e in absurd (omega arith) }

    pub write_stores : (d : ℕ) → Looks b m t q d → Writes b m t q v 0 (set m ((descriptor_in d).address + t.word) v)
    write_stores d s = record { asked = looks_passes d s; kept = λ z. absurd (z refl); stored = λ _. rw s.found.same }

-- THE NODES OF A PROGRAM. A use asks by DBR and memory alone
pub use_answer_by : (m : Machine) (t : Pointer) (q : Question) → use_answer m t q ≡ use_by m.registers.dbr m.memory t q
unfolding use_answer descriptor_of use_by use_at descriptor_word
use_answer_by m t q = refl

module _ (m : Machine) (t : Pointer) (q : Question) where
  refuses : (e : Fault) (o : Outcome) → use_by m.registers.dbr m.memory t q ≡ fault_number e → or_fault (use_answer m t q) t o ≡ faults (fault_number e) t
  refuses e o h = rw (use_answer_by m t q, h) (or_fault_no (fault_number e) t o (fault_from_one e))

  module _ (d : ℕ) (s : Looks m.registers.dbr m.memory t q d) where
    yes_goes_on : (o : Outcome) → or_fault (use_answer m t q) t o ≡ o
    yes_goes_on o = or_fault_yes _ t o (use_answer_by m t q ∙ looks_passes m.registers.dbr m.memory t q d s)

    descriptor_here : descriptor_of m t.segment ≡ descriptor_in d
    unfolding descriptor_of descriptor_word
    descriptor_here = rw s.found.same

    word_here : word_at m t ≡ word_through m.memory d t.word
    unfolding word_at absolute_address word_through
    word_here = rw descriptor_here

  module _ (x : Result Descriptor Fault) (s : looked m.registers.dbr m.memory t q x) (f : Words.Descriptor → Program) where
    pub look_refused : (e : Fault) → x ≡ Err e → execute m (look q t f) ≡ faults (fault_number e) t
    unfolding execute
    look_refused e is = let h = rw is at s in refuses e _ h

    pub look_passed : (d : Descriptor) → x ≡ Ok d → execute m (look q t f) ≡ execute m (f (descriptor_in d.0))
    unfolding execute
    look_passed d is = let h = rw is at s in yes_goes_on d.0 h _ ∙ rw (descriptor_here d.0 h)

  module _ (x : Result ReadWord Fault) (s : accessed m.registers.dbr m.memory t q x) (f : Words.Descriptor → (word : ℕ) → Program) where
    pub read_refused : (e : Fault) → x ≡ Err e → execute m (read q t f) ≡ faults (fault_number e) t
    unfolding execute
    read_refused e is = let h = rw is at s in refuses e _ h

    pub read_passed : (w : ReadWord) → x ≡ Ok w → execute m (read q t f) ≡ execute m (f (descriptor_in w.descriptor.0) w.word)
    unfolding execute
    read_passed w is =
        let h = rw is at s in yes_goes_on w.descriptor.0 h.looks _ ∙ rw (descriptor_here w.descriptor.0 h.looks, word_here w.descriptor.0 h.looks, ← h.word_same)

    pub read_refused_counts : (e : Fault) → x ≡ Err e → ticks m (read q t f) ≡ 0
    unfolding ticks
    read_refused_counts e is = let h = rw is at s in unless_fault_no (use_answer m t q) _ (rw (use_answer_by m t q ∙ h) (fault_from_one e))

    pub read_passed_counts : (w : ReadWord) → x ≡ Ok w → ticks m (read q t f) ≡ ticks m (f (descriptor_in w.descriptor.0) w.word)
    unfolding ticks
    read_passed_counts w is =
        let h = rw is at s in
        unless_fault_yes (use_answer m t q) _ (use_answer_by m t q ∙ looks_passes m.registers.dbr m.memory t q w.descriptor.0 h.looks)
        ∙ rw (descriptor_here w.descriptor.0 h.looks, word_here w.descriptor.0 h.looks, ← h.word_same)

  module _ (v : ℕ) (m_now : List ℕ) (r : Registers) where
    pub write_faults : (e : Fault) → Writes m.registers.dbr m.memory t q v (fault_number e) m_now → execute m (write q t v r) ≡ faults (fault_number e) t
    unfolding execute
    write_faults e s = refuses e _ s.asked

    pub write_completes : Writes m.registers.dbr m.memory t q v 0 m_now → execute m (write q t v r) ≡ completes (record { registers = r; memory = m_now })
    unfolding execute machine absolute_address descriptor_of descriptor_word
    write_completes s = or_fault_yes _ t _ (use_answer_by m t q ∙ s.asked) ∙ rw (s.stored refl)
