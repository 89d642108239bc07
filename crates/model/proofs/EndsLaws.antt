-- Why a run ends, its count, and how runs follow on one another. Assumes nothing.
use mathlib.Core.Path.{◌≡◌, refl, sym, ◌∙◌, ap, ap₂, subst}
use Prim.Native.Nat.{ℕ, zero, suc, ◌+◌, ◌-◌, ◌<◌}
use native.Mathlib.Omega.{arith}
use Rattle.model.specs.Words.{Pointer}
use Rattle.model.specs.Registers.{Delivery, Machine}
use Rattle.model.specs.Questions.{start_questions}
use Rattle.model.specs.Program.{faults, completes, halts}
use Rattle.model.specs.Deliver.{step_with}
use Rattle.model.specs.Run.{spent, halted, fault, Ran, ran, run_from, run}
use Rattle.model.specs.Ends.{Steps, no_step, one_more, Ends, by_refusal, by_fault, by_halt, by_budget, RunEnds, EndsOnce}
use Rattle.model.proofs.RunLaws.{run_faults, run_halts, run_completes, run_refused, run_goes, along_run}

module _ (v : Delivery) where
  -- WHY A RUN ENDS, after c steps were counted before it
  pub data EndsFrom (b c : ℕ) (m : Machine) : Ran → Type 0 where
    fault_from : (n j : ℕ) (t : Pointer) (k : Machine) → Steps v j m k → j < b → step_with v k ≡ faults n t → EndsFrom b c m (ran (fault n (c + j) t) k)
    halt_from : (j : ℕ) (k l : Machine) → Steps v j m k → j < b → step_with v k ≡ halts l → EndsFrom b c m (ran (halted (suc (c + j))) l)
    budget_from : (k : Machine) → Steps v b m k → EndsFrom b c m (ran (spent (c + b)) k)

  pub run_ends_from : (b c : ℕ) (m : Machine) → EndsFrom b c m (run_from v b c m)
  run_ends_from =
      along_run v EndsFrom
      (λ c m. subst (λ z. EndsFrom 0 c m (ran (spent z) m)) (omega arith) (budget_from m no_step))
      (λ b c n t m e. subst (λ z. EndsFrom (suc b) c m (ran (fault n z t) m)) (omega arith) (fault_from n 0 t m no_step (omega arith) e))
      (λ b c m k e. subst (λ z. EndsFrom (suc b) c m (ran (halted (suc z)) k)) (omega arith) (halt_from 0 m k no_step (omega arith) e))
      (λ b c m k e. after_step b c m k e)
    where
      after_step : (b c : ℕ) (m l : Machine) → step_with v m ≡ completes l → {x : Ran} → EndsFrom b (suc c) l x → EndsFrom (suc b) c m x
      after_step b c m l e (fault_from n j t k s h f) =
          subst (λ z. EndsFrom (suc b) c m (ran (fault n z t) k)) (omega arith) (fault_from n (suc j) t k (one_more e s) (omega arith) f)
      after_step b c m l e (halt_from j k h s i f) =
          subst (λ z. EndsFrom (suc b) c m (ran (halted (suc z)) h)) (omega arith) (halt_from (suc j) k h (one_more e s) (omega arith) f)
      after_step b c m l e (budget_from k s) = subst (λ z. EndsFrom (suc b) c m (ran (spent z) k)) (omega arith) (budget_from k (one_more e s))

  -- THE STEPS BEFORE, and one more
  pub steps_then : {j : ℕ} {m k l : Machine} → Steps v j m k → step_with v k ≡ completes l → Steps v (suc j) m l
  steps_then no_step e = one_more e no_step
  steps_then (one_more f s) e = one_more f (steps_then s e)

  -- done as a run
  pub steps_run : {j : ℕ} {m k : Machine} → Steps v j m k → (b c : ℕ) → run_from v (j + b) c m ≡ run_from v b (c + j) k
  steps_run {m} no_step b c = ap₂ (λ x y. run_from v x y m) (omega arith) (omega arith)
  steps_run {m} {k} (one_more {n = n} {l = l} e s) b c =
      ap (λ x. run_from v x c m) (omega arith) ∙ run_completes v (n + b) c m l e ∙ steps_run s b (suc c) ∙ ap (λ x. run_from v b x k) (omega arith)

  -- j steps, and a budget that has room for one more
  steps_run_within : {j : ℕ} {m k : Machine} → Steps v j m k → (b : ℕ) → j < b → (d : ℕ) × (run_from v b 0 m ≡ run_from v (suc d) j k)
  steps_run_within {j} {m} {k} s b h = (
    b - suc j,
    ap (λ x. run_from v x 0 m) (omega arith) ∙ steps_run s (suc (b - suc j)) 0 ∙ ap (λ x. run_from v (suc (b - suc j)) x k) (omega arith),
  )

  steps_spend : {j : ℕ} {m k : Machine} → Steps v j m k → (c : ℕ) → run_from v j c m ≡ ran (spent (c + j)) k
  unfolding run_from
  steps_spend {j} {m} {k} s c = let e : j ≡ j + 0 = omega arith in ap (λ x. run_from v x c m) e ∙ steps_run s 0 c

-- EACH KIND OF REPLY
pub run_ends : RunEnds
run_ends v b m = by_answer (start_questions v m) refl
  where
    from_start : start_questions v m ≡ 0 → {x : Ran} → EndsFrom v b 0 m x → Ends v b m x
    from_start e (fault_from n j t k s h f) = subst (λ z. Ends v b m (ran (fault n z t) k)) (omega arith) (by_fault e s h f)
    from_start e (halt_from j k l s h f) = subst (λ z. Ends v b m (ran (halted (suc z)) l)) (omega arith) (by_halt e s h f)
    from_start e (budget_from k s) = subst (λ z. Ends v b m (ran (spent z) k)) (omega arith) (by_budget e s)

    by_answer : (a : ℕ) → start_questions v m ≡ a → Ends v b m (run v b m)
    by_answer zero e = rw (run_goes v b m e) (from_start e (run_ends_from v b 0 m))
    by_answer (suc n) e = rw (run_refused v b n m e) (by_refusal e)

pub ends_once : EndsOnce
ends_once v b m x (by_refusal {n = n} e) = sym (run_refused v b n m e)
ends_once v b m x (by_fault {count = j} {number = n} {t = t} {k = k} e s h f) =
    let r = steps_run_within v s b h in sym (run_goes v b m e ∙ r.1 ∙ run_faults v r.0 j n t k f)
ends_once v b m x (by_halt {count = j} {k = k} {l = l} e s h f) =
    let r = steps_run_within v s b h in sym (run_goes v b m e ∙ r.1 ∙ run_halts v r.0 j k l f)
ends_once v b m x (by_budget {k = k} e s) = sym (run_goes v b m e ∙ steps_spend v s 0 ∙ ap (λ z. ran (spent z) k) (omega arith))
