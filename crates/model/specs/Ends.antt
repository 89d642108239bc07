-- Statements on runs: why a run ends, each kind of reply whole, and how runs follow on one another. Assumes nothing: these are definitions.
use Rattle.std.specs.Prelude.{◌≡◌, ℕ, zero, suc, ◌+◌, ◌≤◌, ◌<◌, length}
use Rattle.model.specs.Words.{Pointer}
use Rattle.model.specs.Registers.{Delivery, Machine}
use Rattle.model.specs.Questions.{start_questions}
use Rattle.model.specs.Program.{faults, completes, halts}
use Rattle.model.specs.Deliver.{step_with}
use Rattle.model.specs.Run.{Reply, refused, spent, halted, fault, Ran, ran, run, after, single_step, trace}
use Rattle.model.specs.Answers.{reply_numbers, step_numbers}

-- n completed steps, none of them HLT, lead from m to k
pub data Steps (v : Delivery) : ℕ → Machine → Machine → Type 0 where
  no_step : {m : Machine} → Steps v zero m m
  one_more : {n : ℕ} {m l k : Machine} → step_with v m ≡ completes l → Steps v n l k → Steps v (suc n) m k

-- why a run with that budget from m answers and leaves what it does; there is no other kind
pub data Ends (v : Delivery) (budget : ℕ) (m : Machine) : Ran → Type 0 where
  -- one of 1 to 4 has a no: its number, and nothing is changed
  by_refusal : {n : ℕ} → start_questions v m ≡ suc n → Ends v budget m (ran (refused (suc n)) m)
  -- the step after count completed ones faults, undelivered: what they left stays
  by_fault : {count number : ℕ} {t : Pointer} {k : Machine} → start_questions v m ≡ 0 → Steps v count m k → count < budget → step_with v k ≡ faults number t → Ends v budget m (ran (fault number count t) k)
  -- the last completed step is HLT, and counts
  by_halt : {count : ℕ} {k l : Machine} → start_questions v m ≡ 0 → Steps v count m k → count < budget → step_with v k ≡ halts l → Ends v budget m (ran (halted (suc count)) l)
  -- as many steps as the budget, none of them HLT
  by_budget : {k : Machine} → start_questions v m ≡ 0 → Steps v budget m k → Ends v budget m (ran (spent budget) k)

-- every run ends for one of these reasons, and wherever one holds the run is that one
abbrev pub RunEnds : Type 0
RunEnds = (v : Delivery) (b : ℕ) (m : Machine) → Ends v b m (run v b m)

abbrev pub EndsOnce : Type 0
EndsOnce = (v : Delivery) (b : ℕ) (m : Machine) (x : Ran) → Ends v b m x → x ≡ run v b m

-- the count is at most the budget, is that of the trace, and memory keeps its size
abbrev pub RunCounts : Type 0
RunCounts =
    (v : Delivery) (b : ℕ) (m : Machine) → let x = run v b m in
    ((reply_numbers x.reply).count ≤ b) × ((reply_numbers x.reply).count ≡ length (trace v b m)) × (length x.machine.memory ≡ length m.memory)

-- after a fault stands what stood before the faulting step
abbrev pub FaultLeaves : Type 0
FaultLeaves = (v : Delivery) (b n c : ℕ) (t : Pointer) (m : Machine) → (run v b m).reply ≡ fault n c t → after v b m ≡ after v c m

-- a reply with so many more completed steps in its count
unfoldable pub counted_from : (steps : ℕ) → Reply → Reply
counted_from j (refused n) = refused n
counted_from j (spent c) = spent (j + c)
counted_from j (halted c) = halted (j + c)
counted_from j (fault n c t) = fault n (j + c) t

-- a run of j + k steps is one of j and then, where that one spent its budget, one of k from what it left
abbrev pub RunContinues : Type 0
RunContinues =
    (v : Delivery) (j k : ℕ) (m : Machine) → (run v j m).reply ≡ spent j → let y = run v k (after v j m) in
    run v (j + k) m ≡ ran (counted_from j y.reply) y.machine

-- and where it ended otherwise, a larger budget changes nothing
abbrev pub RunStays : Type 0
RunStays = (v : Delivery) (j k : ℕ) (m : Machine) → ((run v j m).reply ≡ spent j → ⊥) → run v (j + k) m ≡ run v j m

-- a single step is the run with budget 1
abbrev pub SingleStepRuns : Type 0
SingleStepRuns =
    (v : Delivery) (m : Machine) →
    ((single_step v m).machine ≡ after v 1 m) × (step_numbers (single_step v m).reply ≡ reply_numbers (run v 1 m).reply)
