-- What a run answers, 1 to 4 asked first. Assumes nothing: these are definitions.
use Rattle.std.specs.Prelude.{◌≡◌, Bool, cond, List, ℕ, ◌+◌, ◌≤◌, length, take, Result, Ok, Err}
use Rattle.model.specs.Registers.{Delivery, Machine}
use Rattle.model.specs.Answers.{reply_numbers}
use Rattle.model.specs.Questions.{start_questions}
use Rattle.model.specs.Run as Run
use Rattle.state.specs.View.{as_machine}
use Rattle.state.specs.declared.Core.{Core}
use Rattle.host.specs.Record.{machine_of, delivery_of, InRecord}
use Rattle.host.specs.declared.record.Registers.{Registers}
use Rattle.run.specs.Run.{noted_steps}
use Rattle.answers.specs.Answer.{as_numbers, AnswerFits}
use Rattle.answers.specs.declared.Answered.{Answered}
use Rattle.questions.specs.Numbers.{start_number}
use Rattle.questions.specs.declared.start.StartError.{StartError}
use Rattle.machine.specs.declared.Prepared.{Prepared}

-- the pointer words of a run: its total, and as a single step with those of the step at which it faults
abbrev pub pointers_read : Delivery → (single : Bool) → (budget : ℕ) → Machine → ℕ
pointers_read v s b m = cond s (Run.total v b m + Run.fault_count v b m) (Run.total v b m)

-- the definition's run: reply, registers and every word of memory, its pointer words, and its trace where there is room
pub record AnsweredAs (v : Delivery) (single : Bool) (budget : ℕ) (c : Core) (prs memory trace : List ℕ) (x : Answered) (prs_now memory_now trace_now : List ℕ) : Type 0 where
  pub numbers_same : as_numbers x ≡ reply_numbers (Run.run v budget (as_machine c prs memory)).reply
  pub machine_same : as_machine x.core prs_now memory_now ≡ (Run.run v budget (as_machine c prs memory)).machine
  pub fits : AnswerFits x
  pub core_fits : InRecord c → InRecord x.core
  pub passes : start_questions v (as_machine c prs memory) ≡ 0 → start_questions v (as_machine x.core prs_now memory_now) ≡ 0
  pub trace_size : length trace_now ≡ length trace
  pub traced : start_questions v (as_machine c prs memory) ≡ 0 → budget ≤ length trace → noted_steps (take x.count trace_now) ≡ Run.trace_from v budget (as_machine c prs memory)
  pub pointers_same : x.pointers ≡ pointers_read v single budget (as_machine c prs memory)

-- 1 to 4 of a host's record: the first no, or the machine itself, as it was
abbrev pub PreparedAs : Registers → (memory : List ℕ) → Result Prepared StartError → (memory_now : List ℕ) → Type 0
PreparedAs r memory (Err e) memory_now = start_number e ≡ start_questions (delivery_of r) (machine_of r memory)
PreparedAs r memory (Ok x) memory_now = (0 ≡ start_questions (delivery_of r) (machine_of r memory)) × (as_machine x.core x.prs memory_now ≡ machine_of r memory)
