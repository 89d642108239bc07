-- Statements on CALL's check (02, L5): the step answers by it, and what it answers is what happens. Assumes nothing: these are definitions.
use Rattle.std.specs.Prelude.{◌≡◌, true, false, ℕ}
use Rattle.model.specs.Words.{Pointer, Instruction, instruction_in}
use Rattle.model.specs.Registers.{Delivery, Machine, machine, with_ring_at_least}
use Rattle.model.specs.Questions.{fetch_questions}
use Rattle.model.specs.Program.{Program, Outcome, faults, completes, word_at, use_answer, execute}
use Rattle.model.specs.Step.{first_address, called, call, step}
use Rattle.model.specs.Check.{Check, refused, fault, passes, checked, check}

-- by a check's answer: its fault, or the move by its ring; one that is refused says nothing of a step
abbrev pub ByCheck : Machine → Pointer → Outcome → Check → Type 0
ByCheck m t o (refused n) = ⊥
ByCheck m t o (fault n u) = o ≡ faults n u
ByCheck m t o (passes n) = o ≡ completes (machine (called n t m.registers) m.memory)

-- a step that comes to CALL with TPR formed answers by the check of TPR, and moves by its ring
abbrev pub CallsByCheck : Type 0
CallsByCheck = (m : Machine) (t : Pointer) → ByCheck m t (execute m (call m.registers t)) (checked m t)

-- THE ANSWER IS WHAT HAPPENS: where the check of a pointer passes with a ring, and the instruction at IPR, which may be fetched, is a
-- CALL whose address is that pointer, in a ring that is at least IPR's as for every program, then the step takes that ring
pub record AboutToCall (m : Machine) (p : Pointer) : Type 0 where
  pub fetched : use_answer m m.registers.ipr (fetch_questions m.registers.ipr) ≡ 0
  pub is_call : (instruction_in (word_at m m.registers.ipr)).opcode ≡ 32
  pub direct : (instruction_in (word_at m m.registers.ipr)).i ≡ false
  pub there : first_address (instruction_in (word_at m m.registers.ipr)) m.registers ≡ with_ring_at_least m.registers.ipr.ring p

abbrev pub CheckTells : Type 0
CheckTells =
    (v : Delivery) (m : Machine) (p : Pointer) (n : ℕ) → check v m p ≡ passes n → AboutToCall m p →
    step m ≡ completes (machine (called n (with_ring_at_least m.registers.ipr.ring p) m.registers) m.memory)
