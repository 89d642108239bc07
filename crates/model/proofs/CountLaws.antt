-- A run's count, what a fault leaves, runs that follow on one another, and a single step as a run. Assumes nothing.
use mathlib.Core.Path.{◌≡◌, refl, sym, ◌∙◌, ap, subst}
use mathlib.Core.Logic.{inl}
use Prim.Native.Nat.{ℕ, zero, suc, ◌+◌, ◌≤◌}
use native.Mathlib.Omega.{arith}
use lib.ListN.{length}
use Rattle.model.specs.Registers.{Delivery, Machine}
use Rattle.model.specs.Questions.{start_questions}
use Rattle.model.specs.Program.{Outcome, faults, completes, halts}
use Rattle.model.specs.Deliver.{step_with}
use Rattle.model.specs.Run.{Reply, spent, halted, fault, Ran, ran, unless_refused, run_on, run_from, run, after, stepped, stepped_to, single_step, trace_from, trace}
use Rattle.model.specs.Answers.{numbers, reply_numbers, step_numbers}
use Rattle.model.specs.Ends.{Steps, no_step, one_more, Ends, by_refusal, by_fault, by_halt, by_budget, RunCounts, FaultLeaves, counted_from, RunContinues, RunStays, SingleStepRuns}
use Rattle.model.proofs.ProgramLaws.{SizeKept}
use Rattle.model.proofs.DeliverLaws.{step_keeps_size, step_keeps_passing}
use Rattle.model.proofs.RunLaws.{Next, next_faults, next_halts, next_completes, next, run_faults, run_halts, run_completes, trace_faults, trace_halts, trace_completes, run_refused, run_goes, trace_refused, trace_goes, along_run, Onward, stays, steps, after_onward}
use Rattle.model.proofs.EndsLaws.{steps_run, run_ends, ends_once}

module _ (v : Delivery) where
  -- after any number of steps 1 to 4 pass again
  pub steps_keep_passing : {n : ℕ} {m k : Machine} → Steps v n m k → start_questions v m ≡ 0 → start_questions v k ≡ 0
  steps_keep_passing no_step q = q
  steps_keep_passing (one_more {m = m} {l = l} e s) q = steps_keep_passing s (step_keeps_passing v m l q (inl e))

  onward_passes : {m k : Machine} → Onward v m k → start_questions v m ≡ 0 → start_questions v k ≡ 0
  onward_passes stays e = e
  onward_passes {m} {k} (steps o) e = step_keeps_passing v m k e o

  pub after_passes : (j : ℕ) (m : Machine) → start_questions v m ≡ 0 → start_questions v (after v j m) ≡ 0
  unfolding after run_from ran
  after_passes zero m e = subst (λ (x : Machine). start_questions v x ≡ 0) (sym (ap (λ (x : Ran). x.machine) (run_goes v 0 m e))) e
  after_passes (suc j) m e = onward_passes (after_onward v j m) (after_passes j m e)

  -- counting from j more is only that
  pub run_from_shifts : (j b c : ℕ) (m : Machine) → run_from v b (j + c) m ≡ ran (counted_from j (run_from v b c m).reply) (run_from v b c m).machine
  unfolding run_from ran counted_from
  run_from_shifts j zero c m = refl
  run_from_shifts j (suc b) c m = by_next (next v m) (λ k. run_from_shifts j b (suc c) k)
    where
      by_next : Next v m → ((k : Machine) → run_from v b (j + suc c) k ≡ ran (counted_from j (run_from v b (suc c) k).reply) (run_from v b (suc c) k).machine) →
          run_from v (suc b) (j + c) m ≡ ran (counted_from j (run_from v (suc b) c m).reply) (run_from v (suc b) c m).machine
      by_next (next_faults n t e) ih = rw (run_faults v b (j + c) n t m e, run_faults v b c n t m e)
      by_next (next_halts k e) ih =
          rw (run_halts v b (j + c) m k e, run_halts v b c m k e) (ap (λ z. ran (halted z) k) (omega arith))
      by_next (next_completes k e) ih =
          rw (run_completes v b (j + c) m k e, run_completes v b c m k e) (ap (λ z. run_from v b z k) (omega arith) ∙ ih k)

  -- THE COUNT
  record Counted (b c : ℕ) (m : Machine) (x : Ran) : Type 0 where
    within_budget : (reply_numbers x.reply).count ≤ c + b
    as_traced : (reply_numbers x.reply).count ≡ c + length (trace_from v b m)
    size_kept : length x.machine.memory ≡ length m.memory

  run_from_counts : (b c : ℕ) (m : Machine) → Counted b c m (run_from v b c m)
  unfolding ran reply_numbers numbers trace_from
  run_from_counts =
      along_run v Counted (λ c m. record { within_budget = omega arith; as_traced = omega arith; size_kept = refl })
      (λ b c n t m e. record { within_budget = omega arith; as_traced = rw (trace_faults v b n t m e) (omega arith); size_kept = refl })
      (λ b c m k e.
      record { within_budget = omega arith; as_traced = rw (trace_halts v b m k e) (omega arith); size_kept = subst (SizeKept (length m.memory)) e (step_keeps_size v m) })
      (λ b c m k e h.
      record {
        within_budget = let l = h.within_budget in omega arith;
        as_traced = rw (trace_completes v b m k e) (h.as_traced ∙ omega arith);
        size_kept = h.size_kept ∙ subst (SizeKept (length m.memory)) e (step_keeps_size v m);
      })

pub run_counts : RunCounts
run_counts v b m = by_answer (start_questions v m) refl
  where
    by_answer : (a : ℕ) → start_questions v m ≡ a →
        ((reply_numbers (run v b m).reply).count ≤ b) × ((reply_numbers (run v b m).reply).count ≡ length (trace v b m))
        × (length (run v b m).machine.memory ≡ length m.memory)
    by_answer zero e =
        let h = run_from_counts v b 0 m in
        rw (run_goes v b m e, trace_goes v b m e) (let l = h.within_budget in omega arith, h.as_traced ∙ omega arith, h.size_kept)
    by_answer (suc n) e = rw (run_refused v b n m e, trace_refused v b n m e) (unfold ran reply_numbers numbers in (omega arith, refl, refl))

-- AFTER A FAULT
kind_of : Reply → ℕ
kind_of p = (reply_numbers p).kind

pub fault_leaves : FaultLeaves
unfolding after ran kind_of reply_numbers numbers
fault_leaves v b n c t m e = by_ends (run_ends v b m) e
  where
    by_ends : {x : Ran} → Ends v b m x → x.reply ≡ fault n c t → x.machine ≡ (run v c m).machine
    by_ends (by_refusal q) f = absurd (let z = ap kind_of f in omega arith)
    by_ends (by_halt q s h g) f = absurd (let z = ap kind_of f in omega arith)
    by_ends (by_budget q s) f = absurd (let z = ap kind_of f in omega arith)
    by_ends (by_fault {k = k} q s h g) f =
        let same = ap (λ p. (reply_numbers p).count) f in
        ap (λ x. x.machine) (ends_once v c m (ran (spent c) k) (subst (λ z. Ends v z m (ran (spent z) k)) same (by_budget q s)))

-- ON FROM A SPENT BUDGET
pub run_continues : RunContinues
unfolding after ran kind_of reply_numbers numbers
run_continues v j k m e = by_ends (run_ends v j m) e refl
  where
    by_ends : {x : Ran} → Ends v j m x → x.reply ≡ spent j → x ≡ run v j m →
        run v (j + k) m ≡ ran (counted_from j (run v k (run v j m).machine).reply) (run v k (run v j m).machine).machine
    by_ends (by_refusal q) f same = absurd (let z = ap kind_of f in omega arith)
    by_ends (by_fault q s h g) f same = absurd (let z = ap kind_of f in omega arith)
    by_ends (by_halt q s h g) f same = absurd (let z = ap kind_of f in omega arith)
    by_ends (by_budget {k = l} q s) f same =
        run_goes v (j + k) m q ∙ steps_run v s k 0 ∙ ap (λ c. run_from v k c l) (omega arith) ∙ run_from_shifts v j k 0 l
        ∙ ap (λ x. ran (counted_from j x.reply) x.machine) (sym (run_goes v k l (steps_keep_passing v s q)))
        ∙ ap (λ (x : Ran). ran (counted_from j (run v k x.machine).reply) (run v k x.machine).machine) same

pub run_stays : RunStays
unfolding ran
run_stays v j k m f = by_ends (run_ends v j m) refl
  where
    by_ends : {x : Ran} → Ends v j m x → x ≡ run v j m → run v (j + k) m ≡ run v j m
    by_ends (by_refusal q) same = sym (ends_once v (j + k) m _ (by_refusal q)) ∙ same
    by_ends (by_fault q s h g) same = sym (ends_once v (j + k) m _ (by_fault q s (omega arith) g)) ∙ same
    by_ends (by_halt q s h g) same = sym (ends_once v (j + k) m _ (by_halt q s (omega arith) g)) ∙ same
    by_ends (by_budget q s) same = absurd (f (ap (λ x. x.reply) (sym same)))

-- A SINGLE STEP
pub single_step_runs : SingleStepRuns
unfolding after single_step unless_refused stepped_to stepped ran reply_numbers step_numbers numbers run_from run_on
single_step_runs v m = by_answer (start_questions v m) refl
  where
    by_outcome : (x : Outcome) →
        ((stepped_to m x).machine ≡ (run_on 0 m x (λ k. run_from v 0 1 k)).machine)
        × (step_numbers (stepped_to m x).reply ≡ reply_numbers (run_on 0 m x (λ k. run_from v 0 1 k)).reply)
    by_outcome (faults n t) = (refl, refl)
    by_outcome (halts k) = (refl, refl)
    by_outcome (completes k) = (refl, refl)

    by_answer : (a : ℕ) → start_questions v m ≡ a →
        ((single_step v m).machine ≡ (run v 1 m).machine) × (step_numbers (single_step v m).reply ≡ reply_numbers (run v 1 m).reply)
    by_answer zero e = rw (run_goes v 1 m e, e) (by_outcome (step_with v m))
    by_answer (suc n) e = rw (run_refused v 1 n m e, e) (refl, refl)
