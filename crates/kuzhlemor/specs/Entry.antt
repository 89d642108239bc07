-- What a call on a lent record and memory answers and leaves: the definition's reply as numbers, registers and every memory word; the switch and its segments stay. Assumes nothing: these are definitions.
use Rattle.std.specs.Prelude.{◌≡◌, List, ℕ}
use Rattle.model.specs.Answers.{reply_numbers, step_numbers}
use Rattle.model.specs.Run.{run, single_step, total, single_count}
use Rattle.host.specs.Record.{registers_of, machine_of, delivery_of}
use Rattle.host.specs.declared.record.Registers.{Registers}
use Rattle.entry.specs.Call.{as_numbers}
use Rattle.entry.specs.declared.Answer.{Answer}

pub record RunSays (budget : ℕ) (before : Registers) (memory : List ℕ) (answer : Answer) (after : Registers) (memory_now : List ℕ) : Type 0 where
  pub answer_same : as_numbers answer ≡ reply_numbers (run (delivery_of before) budget (machine_of before memory)).reply
  pub registers_same : registers_of after ≡ (run (delivery_of before) budget (machine_of before memory)).machine.registers
  pub delivery_same : after.delivery ≡ before.delivery
  pub memory_same : memory_now ≡ (run (delivery_of before) budget (machine_of before memory)).machine.memory
  pub pointers_same : answer.pointer_words ≡ total (delivery_of before) budget (machine_of before memory)

pub record StepSays (before : Registers) (memory : List ℕ) (answer : Answer) (after : Registers) (memory_now : List ℕ) : Type 0 where
  pub answer_same : as_numbers answer ≡ step_numbers (single_step (delivery_of before) (machine_of before memory)).reply
  pub registers_same : registers_of after ≡ (single_step (delivery_of before) (machine_of before memory)).machine.registers
  pub delivery_same : after.delivery ≡ before.delivery
  pub memory_same : memory_now ≡ (single_step (delivery_of before) (machine_of before memory)).machine.memory
  pub pointers_same : answer.pointer_words ≡ single_count (delivery_of before) (machine_of before memory)
