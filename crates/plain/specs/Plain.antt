-- What plain steps answer, 1 to 4 asked first but for the switch and its segments. Assumes nothing: these are definitions.
use Rattle.std.specs.Prelude.{◌≡◌, Bool, cond, List, ℕ, suc, ◌+◌, ◌≤◌, length, take}
use Rattle.model.specs.Registers.{no_delivery, Machine}
use Rattle.model.specs.Answers.{reply_numbers}
use Rattle.model.specs.Questions.{start_questions}
use Rattle.model.specs.Run as Run
use Rattle.state.specs.View.{as_machine}
use Rattle.state.specs.declared.Core.{Core}
use Rattle.host.specs.Record.{InRecord}
use Rattle.dispatch.specs.Plain.{plain_step}
use Rattle.run.specs.Run.{run_by, trace_by, last_by, noted_steps}
use Rattle.answers.specs.Answer.{as_numbers, AnswerFits}
use Rattle.answers.specs.declared.Answered.{Answered}

-- a core by its numbers
abbrev pub core_of : (a address length ring segment word : ℕ) → Core
core_of a b l r s w =
    record { a = a; dbr = record { address = b; length = l }; ipr = record { ring = r; segment = record { 0 = s }; word = record { 0 = w } } }

-- pointer words: of the completed steps, and as a single step with those of the one at which they stop
abbrev pub plain_words : (single : Bool) → (budget : ℕ) → Machine → ℕ
plain_words s b m = let t = Run.total_of (trace_by plain_step b m) in cond s (t + last_by plain_step b m) t

-- a refusal changes nothing
pub record Refuses (n : ℕ) (c : Core) (prs memory : List ℕ) (x : Answered) (prs_now memory_now : List ℕ) : Type 0 where
  pub numbers_same : as_numbers x ≡ reply_numbers (Run.Reply.refused n)
  pub core_same : x.core ≡ c
  pub prs_same : prs_now ≡ prs
  pub memory_same : memory_now ≡ memory
  pub none_read : x.pointers ≡ 0

-- else the run by plain steps: reply, registers and every word of memory, its pointer words, and its trace where there is room
pub record RunsPlainly (single : Bool) (budget : ℕ) (m : Machine) (trace : List ℕ) (x : Answered) (k : Machine) (trace_now : List ℕ) : Type 0 where
  pub numbers_same : as_numbers x ≡ reply_numbers (run_by plain_step budget 0 m).reply
  pub machine_same : k ≡ (run_by plain_step budget 0 m).machine
  pub passes : start_questions no_delivery k ≡ 0
  pub traced : budget ≤ length trace → noted_steps (take x.count trace_now) ≡ trace_by plain_step budget m
  pub pointers_same : x.pointers ≡ plain_words single budget m

pub record PlainAs (single : Bool) (budget : ℕ) (c : Core) (prs memory trace : List ℕ) (x : Answered) (prs_now memory_now trace_now : List ℕ) : Type 0 where
  pub refuses : (n : ℕ) → start_questions no_delivery (as_machine c prs memory) ≡ suc n → Refuses (suc n) c prs memory x prs_now memory_now
  pub runs : start_questions no_delivery (as_machine c prs memory) ≡ 0 → RunsPlainly single budget (as_machine c prs memory) trace x (as_machine x.core prs_now memory_now) trace_now
  pub fits : AnswerFits x
  pub core_fits : InRecord c → InRecord x.core
  pub trace_size : length trace_now ≡ length trace
