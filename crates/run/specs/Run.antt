-- A run by a step, what its answer says, and what the part of it says that goes the quick way. Assumes nothing: these are definitions.
use Rattle.std.specs.Prelude.{◌≡◌, List, [], ◌∷◌, ◌++◌, map, ℕ, zero, suc, ◌+◌, ◌-◌, ◌/◌, ◌≤◌, ◌<◌, length, take, Option, Some, None}
use Rattle.model.specs.Words.{pointer_in}
use Rattle.model.specs.Registers.{Delivery, no_delivery, Machine}
use Rattle.model.specs.Questions.{start_questions}
use Rattle.model.specs.Program.{Outcome}
use Rattle.model.specs.Step.{pointer_words}
use Rattle.model.specs.Run as Run
use Rattle.words.specs.View.{as_pointer, PointerWithin}
use Rattle.state.specs.declared.End.{End}
use Rattle.state.specs.Reply.{as_reply, ReplyWithin, completed}
use Rattle.dispatch.specs.Plain.{plain_step}
use Rattle.processor.specs.Step.{ReadyToPerform}
use Rattle.processor.specs.declared.Instruction.{Instruction}
use Rattle.run.specs.declared.Ran.{Ran}
use Rattle.run.specs.declared.Went.{Went}

-- A RUN BY A STEP under a budget, what stands after each of its steps, and how many pointer words the step read at which it ends, if it faults
module _ (step : Machine → Outcome) where
  unfoldable pub run_by : (left count : ℕ) → Machine → Run.Ran
  run_by zero c m = Run.ran (Run.Reply.spent c) m
  run_by (suc n) c m = Run.run_on c m (step m) (λ k. run_by n (suc c) k)

  unfoldable pub trace_by : (left : ℕ) → Machine → List Run.Traced
  trace_by zero m = []
  trace_by (suc n) m = Run.trace_on (pointer_words m) (step m) (λ k. trace_by n k)

  unfoldable pub last_by : (left : ℕ) → Machine → ℕ
  last_by zero m = 0
  last_by (suc n) m = Run.fault_count_on (pointer_words m) (step m) (λ k. last_by n k)

-- the definition's run, and 1 to 4 pass again after it
pub record RanAs (v : Delivery) (y : Run.Ran) (x : Ran) (m_now : Machine) : Type 0 where
  pub same : y ≡ Run.ran (as_reply x.reply) m_now
  pub pointer_within : ReplyWithin x.reply
  pub passes : start_questions v m_now ≡ 0

-- THE TRACE holds pointer words, and above each how many the step read
unfoldable pub step_in : (word : ℕ) → Run.Traced
step_in w = record { ipr = pointer_in w; pointers = w / 4294967296 }

abbrev pub noted_steps : (trace : List ℕ) → List Run.Traced
noted_steps t = map step_in t

-- a step after those noted before it, where the trace has room
pub record Noted (count : ℕ) (p : Run.Traced) (trace trace_now : List ℕ) : Type 0 where
  pub size_same : length trace_now ≡ length trace
  pub before_same : take count trace_now ≡ take count trace
  pub noted : count < length trace → noted_steps (take (count + 1) trace_now) ≡ noted_steps (take count trace) ++ p ∷ []

-- the definition's trace, where there is room for the whole budget
pub record Traced (step : Machine → Outcome) (budget : ℕ) (m : Machine) (x : Ran) (trace trace_now : List ℕ) : Type 0 where
  pub size_same : length trace_now ≡ length trace
  pub traced : budget ≤ length trace → noted_steps (take (completed x.reply) trace_now) ≡ trace_by step budget m

-- the definition's pointer words: of the completed steps, and of one at which the run faults
pub record Counted (step : Machine → Outcome) (budget : ℕ) (m : Machine) (x : Ran) : Type 0 where
  pub total_same : x.total ≡ Run.total_of (trace_by step budget m)
  pub last_same : x.last ≡ last_by step budget m

-- ON THE WAY: from machine m with count c the run has come to machine k with another count, and all that is to come follows
pub record OnTheWay (step : Machine → Outcome) (v : Delivery) (budget c : ℕ) (m : Machine) (trace : List ℕ) (count read : ℕ) (k : Machine) (trace_now : List ℕ) : Type 0 where
  pub within_budget : count ≤ budget
  pub passes : start_questions v k ≡ 0
  pub size_same : length k.memory ≡ length m.memory
  pub trace_size : length trace_now ≡ length trace
  pub run_same : run_by step (budget - c) c m ≡ run_by step (budget - count) count k
  pub trace_same : budget ≤ length trace →
      noted_steps (take c trace) ++ trace_by step (budget - c) m ≡ noted_steps (take count trace_now) ++ trace_by step (budget - count) k
  pub total_same : Run.total_of (trace_by step (budget - c) m) ≡ read + Run.total_of (trace_by step (budget - count) k)
  pub last_same : last_by step (budget - c) m ≡ last_by step (budget - count) k

-- at its end: the run's reply, and no step is to come
pub record AtTheEnd (step : Machine → Outcome) (v : Delivery) (budget c : ℕ) (m : Machine) (trace : List ℕ) (reply : Run.Reply) (count read last : ℕ) (k : Machine) (trace_now : List ℕ) : Type 0 where
  pub passes : start_questions v k ≡ 0
  pub trace_size : length trace_now ≡ length trace
  pub run_same : run_by step (budget - c) c m ≡ Run.ran reply k
  pub trace_same : budget ≤ length trace → noted_steps (take c trace) ++ trace_by step (budget - c) m ≡ noted_steps (take count trace_now)
  pub total_same : Run.total_of (trace_by step (budget - c) m) ≡ read
  pub last_same : last_by step (budget - c) m ≡ last

-- where the quick way led from there
abbrev pub went : (budget c : ℕ) → Machine → (trace : List ℕ) → (count read last : ℕ) → End → Machine → (trace_now : List ℕ) → Type 0
went b c m t n r l End.Completed k u = OnTheWay plain_step no_delivery b c m t n r k u × (c < n)
went b c m t n r l End.Halted k u = AtTheEnd plain_step no_delivery b c m t (Run.Reply.halted n) n r 0 k u
went b c m t n r l (End.Faulted i p) k u = AtTheEnd plain_step no_delivery b c m t (Run.Reply.fault i n (as_pointer p)) n r l k u × PointerWithin p

pub record WentAs (budget c : ℕ) (m : Machine) (trace : List ℕ) (x : Went) (k : Machine) (trace_now : List ℕ) : Type 0 where
  pub led : went budget c m trace x.count x.read x.last x.end k trace_now
  pub read_within : x.read ≤ 64

-- the next instruction by the quick way, with budget left for it
abbrev pub NextFormed : (count budget : ℕ) → Machine → Option Instruction → Type 0
NextFormed c b m None = Unit {0}
NextFormed c b m (Some i) = ReadyToPerform m i.word i.pointer 0 × (c < b)
