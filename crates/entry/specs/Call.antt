-- What a call on a lent record and memory answers and leaves, as a run or as a single step. Assumes nothing: these are definitions.
use Rattle.std.specs.Prelude.{◌≡◌, Bool, List, ℕ}
use Rattle.model.specs.Registers as Registers
use Rattle.model.specs.Answers.{Numbers, reply_numbers}
use Rattle.model.specs.Run.{run}
use Rattle.state.specs.View.{as_machine}
use Rattle.state.specs.declared.Core.{Core}
use Rattle.state.specs.declared.Delivery.{Delivery}
use Rattle.host.specs.Record.{pointer_of, registers_of, machine_of, delivery_of, InRecord}
use Rattle.host.specs.declared.record.DescriptorBase.{DescriptorBase}
use Rattle.host.specs.declared.record.Pointer.{Pointer}
use Rattle.host.specs.declared.record.Registers.{Registers}
use Rattle.answers.specs.Answer as Answer
use Rattle.answers.specs.declared.Answered as Numbered
use Rattle.machine.specs.Answered.{pointers_read}
use Rattle.entry.specs.declared.Answer.{Answer}

-- a record by its parts
abbrev pub together : (a : ℕ) → DescriptorBase → Pointer → Delivery → (prs : List ℕ) → Registers
together a dbr ipr v prs = record { a = a; dbr = dbr; ipr = ipr; prs = prs; delivery = v }

abbrev pub as_numbers : Answer → Numbers
as_numbers a = record { kind = a.kind; number = a.number; count = a.count; pointer = pointer_of a.pointer }

-- on a core, before its answer becomes C's
pub record CoreSays (v : Registers.Delivery) (single : Bool) (budget : ℕ) (c : Core) (prs memory : List ℕ) (x : Numbered.Answered) (prs_now memory_now : List ℕ) : Type 0 where
  pub numbers_same : Answer.as_numbers x ≡ reply_numbers (run v budget (as_machine c prs memory)).reply
  pub machine_same : as_machine x.core prs_now memory_now ≡ (run v budget (as_machine c prs memory)).machine
  pub fits : Answer.AnswerFits x
  pub core_fits : InRecord c → InRecord x.core
  pub pointers_same : x.pointers ≡ pointers_read v single budget (as_machine c prs memory)

pub record CallSays (single : Bool) (budget : ℕ) (before : Registers) (memory : List ℕ) (answer : Answer) (after : Registers) (memory_now : List ℕ) : Type 0 where
  pub answer_same : as_numbers answer ≡ reply_numbers (run (delivery_of before) budget (machine_of before memory)).reply
  pub registers_same : registers_of after ≡ (run (delivery_of before) budget (machine_of before memory)).machine.registers
  pub delivery_same : after.delivery ≡ before.delivery
  pub memory_same : memory_now ≡ (run (delivery_of before) budget (machine_of before memory)).machine.memory
  pub pointers_same : answer.pointer_words ≡ pointers_read (delivery_of before) single budget (machine_of before memory)
