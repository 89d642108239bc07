-- A run with its faults delivered, part by part. Assumes nothing: these are definitions.
use Rattle.std.specs.Prelude.{◌≡◌, Option, None, Some, List, ◌++◌, ℕ, ◌+◌, ◌-◌, ◌*◌, ◌≤◌, ◌<◌, length, take}
use Rattle.model.specs.Words.{Pointer}
use Rattle.model.specs.Registers.{Delivery, no_delivery, Machine}
use Rattle.model.specs.Answers.{reply_numbers}
use Rattle.model.specs.Questions.{start_questions}
use Rattle.model.specs.Program.{faults}
use Rattle.model.specs.Deliver.{step_with}
use Rattle.model.specs.Run as Run
use Rattle.dispatch.specs.Plain.{plain_step}
use Rattle.run.specs.Run.{run_by, trace_by, noted_steps, OnTheWay, AtTheEnd}
use Rattle.state.specs.Reply.{as_reply, ReplyWithin, completed}
use Rattle.answers.specs.Answer.{as_numbers, AnswerFits}
use Rattle.answers.specs.declared.Answered.{Answered}
use Rattle.delivered.specs.declared.PartEnd.{PartEnd}
use Rattle.delivered.specs.declared.RunEnd.{RunEnd}

-- the plain step stops there
pub record AtAStop (m : Machine) : Type 0 where
  pub number : ℕ
  pub pointer : Pointer
  pub stops : plain_step m ≡ faults number pointer

-- plain steps of a run with that budget, from count on
pub record StepsAs (budget count : ℕ) (m : Machine) (trace : List ℕ) (x : Answered) (k : Machine) (trace_now : List ℕ) : Type 0 where
  pub numbers_same : as_numbers x ≡ reply_numbers (run_by plain_step (budget - count) 0 m).reply
  pub machine_same : k ≡ (run_by plain_step (budget - count) 0 m).machine
  pub passes : start_questions no_delivery k ≡ 0
  pub fits : AnswerFits x
  pub trace_size : length trace_now ≡ length trace
  pub traced : budget ≤ length trace →
      noted_steps (take (count + x.count) trace_now) ≡ noted_steps (take count trace) ++ trace_by plain_step (budget - count) m
  pub pointers_same : x.pointers ≡ Run.total_of (trace_by plain_step (budget - count) m)

-- a part from count on has led to count_now, having read so many pointer words: all that is to come follows, or that is the run's end
abbrev pub LedTo : Delivery → (budget count : ℕ) → Machine → List ℕ → (count_now words : ℕ) → Machine → List ℕ → Option RunEnd → Type 0
LedTo v budget count m trace count_now words k trace_now None = OnTheWay (step_with v) v budget count m trace count_now words k trace_now × (count < count_now)
LedTo v budget count m trace count_now words k trace_now (Some e) =
    AtTheEnd (step_with v) v budget count m trace (as_reply e.reply) count_now words e.last k trace_now × (count_now ≡ completed e.reply) × ReplyWithin e.reply

-- a part of a run from count on, of which so many pointer words were read before
pub record PartAs (v : Delivery) (budget count before : ℕ) (m : Machine) (trace : List ℕ) (x : PartEnd) (k : Machine) (trace_now : List ℕ) : Type 0 where
  pub words : ℕ
  pub read_same : x.read ≡ before + words
  pub led : LedTo v budget count m trace x.count words k trace_now x.end
  pub count_within : x.count ≤ budget
  pub few : 64 * count + words ≤ 64 * x.count
