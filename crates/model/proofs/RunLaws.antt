-- Runs one step at a time, and an induction along the run. Assumes nothing.
use mathlib.Core.Path.{◌≡◌, refl}
use mathlib.Core.List.{[], ◌∷◌}
use mathlib.Core.Logic.{◌⊎◌, inl, inr}
use Prim.Native.Nat.{ℕ, zero, suc}
use Rattle.model.specs.Words.{Pointer}
use Rattle.model.specs.Registers.{Delivery, Machine}
use Rattle.model.specs.Questions.{start_questions}
use Rattle.model.specs.Program.{Outcome, faults, completes, halts}
use Rattle.model.specs.Step.{pointer_words}
use Rattle.model.specs.Deliver.{step_with}
use Rattle.model.specs.Run.{refused, spent, halted, fault, Ran, ran, unless_refused, run_on, run_from, run, after, traced, trace_on, trace_from, trace}

module _ (v : Delivery) where
  -- A STEP FAULTS, HALTS OR COMPLETES
  pub data Next (m : Machine) : Type 0 where
    next_faults : (n : ℕ) (t : Pointer) → step_with v m ≡ faults n t → Next m
    next_halts : (k : Machine) → step_with v m ≡ halts k → Next m
    next_completes : (k : Machine) → step_with v m ≡ completes k → Next m

  pub next : (m : Machine) → Next m
  next m = by_outcome (step_with v m) refl
    where
      by_outcome : (x : Outcome) → step_with v m ≡ x → Next m
      by_outcome (faults n t) e = next_faults n t e
      by_outcome (halts k) e = next_halts k e
      by_outcome (completes k) e = next_completes k e

  pub run_faults : (b c n : ℕ) (t : Pointer) (m : Machine) → step_with v m ≡ faults n t → run_from v (suc b) c m ≡ ran (fault n c t) m
  unfolding run_from run_on
  run_faults b c n t m e = rw e

  pub run_halts : (b c : ℕ) (m k : Machine) → step_with v m ≡ halts k → run_from v (suc b) c m ≡ ran (halted (suc c)) k
  unfolding run_from run_on
  run_halts b c m k e = rw e

  pub run_completes : (b c : ℕ) (m k : Machine) → step_with v m ≡ completes k → run_from v (suc b) c m ≡ run_from v b (suc c) k
  unfolding run_from run_on
  run_completes b c m k e = rw e

  pub trace_faults : (b n : ℕ) (t : Pointer) (m : Machine) → step_with v m ≡ faults n t → trace_from v (suc b) m ≡ []
  unfolding trace_from trace_on
  trace_faults b n t m e = rw e

  pub trace_halts : (b : ℕ) (m k : Machine) → step_with v m ≡ halts k → trace_from v (suc b) m ≡ traced k (pointer_words m) ∷ []
  unfolding trace_from trace_on
  trace_halts b m k e = rw e

  pub trace_completes : (b : ℕ) (m k : Machine) → step_with v m ≡ completes k → trace_from v (suc b) m ≡ traced k (pointer_words m) ∷ trace_from v b k
  unfolding trace_from trace_on
  trace_completes b m k e = rw e

  -- A CALL IS REFUSED OR GOES AHEAD
  pub run_refused : (b n : ℕ) (m : Machine) → start_questions v m ≡ suc n → run v b m ≡ ran (refused (suc n)) m
  unfolding run unless_refused
  run_refused b n m e = rw e

  pub run_goes : (b : ℕ) (m : Machine) → start_questions v m ≡ 0 → run v b m ≡ run_from v b 0 m
  unfolding run unless_refused
  run_goes b m e = rw e

  pub trace_refused : (b n : ℕ) (m : Machine) → start_questions v m ≡ suc n → trace v b m ≡ []
  unfolding trace unless_refused
  trace_refused b n m e = rw e

  pub trace_goes : (b : ℕ) (m : Machine) → start_questions v m ≡ 0 → trace v b m ≡ trace_from v b m
  unfolding trace unless_refused
  trace_goes b m e = rw e

  -- INDUCTION along a run
  module _ {ℓ} (P : (left count : ℕ) → Machine → Ran → Type ℓ)
      (at_budget : (c : ℕ) (m : Machine) → P 0 c m (ran (spent c) m))
      (at_fault : (b c n : ℕ) (t : Pointer) (m : Machine) → step_with v m ≡ faults n t → P (suc b) c m (ran (fault n c t) m))
      (at_halt : (b c : ℕ) (m k : Machine) → step_with v m ≡ halts k → P (suc b) c m (ran (halted (suc c)) k))
      (at_step : (b c : ℕ) (m k : Machine) → step_with v m ≡ completes k → P b (suc c) k (run_from v b (suc c) k) → P (suc b) c m (run_from v b (suc c) k)) where
    run_next : (b c : ℕ) (m : Machine) → ((k : Machine) → P b (suc c) k (run_from v b (suc c) k)) → Next m → P (suc b) c m (run_from v (suc b) c m)
    run_next b c m ih (next_faults n t e) = rw (run_faults b c n t m e) (at_fault b c n t m e)
    run_next b c m ih (next_halts k e) = rw (run_halts b c m k e) (at_halt b c m k e)
    run_next b c m ih (next_completes k e) = rw (run_completes b c m k e) (at_step b c m k e (ih k))

    pub along_run : (b c : ℕ) (m : Machine) → P b c m (run_from v b c m)
    unfolding run_from
    along_run zero c m = at_budget c m
    along_run (suc b) c m = run_next b c m (λ k. along_run b (suc c) k) (next m)

  -- WITH ONE STEP MORE stands what the step leaves, or the same where the run has ended
  pub data Onward (m : Machine) : Machine → Type 0 where
    stays : Onward m m
    steps : {k : Machine} → (step_with v m ≡ completes k) ⊎ (step_with v m ≡ halts k) → Onward m k

  run_onward : (b c : ℕ) (m : Machine) → Onward (run_from v b c m).machine (run_from v (suc b) c m).machine
  unfolding ran
  run_onward =
      along_run (λ b c m x. Onward x.machine (run_from v (suc b) c m).machine) (λ c m. from_start c m (next m))
      (λ b c n t m e. rw (run_faults (suc b) c n t m e) stays) (λ b c m k e. rw (run_halts (suc b) c m k e) stays)
      (λ b c m k e h. rw (run_completes (suc b) c m k e) h)
    where
      from_start : (c : ℕ) (m : Machine) → Next m → Onward m (run_from v 1 c m).machine
      from_start c m (next_faults n t e) = rw (run_faults 0 c n t m e) stays
      from_start c m (next_halts k e) = rw (run_halts 0 c m k e) (steps (inr e))
      from_start c m (next_completes k e) = rw (run_completes 0 c m k e) (unfold run_from in steps (inl e))

  pub after_onward : (j : ℕ) (m : Machine) → Onward (after v j m) (after v (suc j) m)
  unfolding after ran
  after_onward j m = by_answer (start_questions v m) refl
    where
      by_answer : (a : ℕ) → start_questions v m ≡ a → Onward (run v j m).machine (run v (suc j) m).machine
      by_answer zero e = rw (run_goes j m e, run_goes (suc j) m e) (run_onward j 0 m)
      by_answer (suc n) e = rw (run_refused j n m e, run_refused (suc j) n m e) stays
