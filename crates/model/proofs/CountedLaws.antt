-- How many pointer words a fault of the step comes after, and a run's total. Assumes nothing.
use mathlib.Core.Path.{◌≡◌, refl, sym, ◌∙◌, ap, ap₂}
use mathlib.Core.Bool.{Bool, true, false, ◌||◌, not}
use mathlib.Core.Option.{Option, none, some}
use Prim.Native.Nat.{ℕ, zero, suc, ◌+◌, ◌*◌, ◌≤◌, ◌<◌}
use native.Mathlib.Omega.{arith}
use lib.Dec.{eqb, lit≤}
use lib.ListN.{length}
use Rattle.model.specs.Words.{Descriptor, Pointer, Instruction}
use Rattle.model.specs.Registers.{Registers, Delivery, Machine}
use Rattle.model.specs.Opcodes.{Access, Opcode}
use Rattle.model.specs.Questions.{Question, ask, then_ask, dbr_fits, segment_questions, use_questions, fetch_questions, read_questions, write_questions, return_questions, transfer_questions, call_questions, start_questions}
use Rattle.model.specs.Program.{Program, fail, finish, halt, look, read, tick, write, Outcome, faults, completes, halts, use_answer, or_fault, execute, unless_fault, ticks}
use Rattle.model.specs.Step.{chain, with_operand, load, store, update, transfer, call, return, load_dbr, perform, obey, step_program, step, pointer_words}
use Rattle.model.specs.Run.{Reply, spent, Ran, ran, run, after, traced, trace_from, trace, total_of, total}
use Rattle.model.specs.Answers.{numbers, reply_numbers}
use Rattle.model.specs.Ends.{Ends, by_refusal, by_fault, by_halt, by_budget}
use Rattle.model.specs.Counted.{Fault31After64, Fault3233ReadsNone, TotalWithin, TotalContinues}
use Rattle.model.proofs.BranchLaws.{cond_holds}
use Rattle.model.proofs.NumberLaws.{answer_up_to_30, fetch_up_to_30, read_up_to_30, fault_number, past_questions, fails_law, perform_fails, operand_fails}
use Rattle.model.proofs.RunLaws.{Next, next_faults, next_halts, next_completes, next, trace_faults, trace_halts, trace_completes, trace_refused, trace_goes}
use Rattle.model.proofs.EndsLaws.{run_ends}
use Rattle.model.proofs.CountLaws.{run_counts, steps_keep_passing}
use Rattle.model.proofs.ListingLaws.{steps_trace, total_append}
use Rattle.model.proofs.TickLaws.{pointer_words_within}

-- 31: AFTER AS MANY AS WERE LEFT
module _ (m : Machine) (n : ℕ) (r : Registers) (i : Instruction) where
  not_31 : (k : Access) (t : Pointer) → fault_number (execute m (perform n k i r t)) ≡ 31 → ⊥
  not_31 k t e =
      fails_law (λ c. c ≡ 31 → ⊥) m 31 (lit≤ tt) (perform n k i r t) (perform_fails (λ c. c ≡ 31 → ⊥) (λ z. omega arith) (λ z. omega arith) n k i r t) e refl

  chain_at_31 : (k : Access) (left : ℕ) (on : Bool) (t : Pointer) →
      fault_number (execute m (chain left on t (perform n k i r))) ≡ 31 → ticks m (chain left on t (perform n k i r)) ≡ left
  unfolding chain execute ticks unless_fault
  chain_at_31 k zero on t =
      cond_holds (λ p. fault_number (execute m p) ≡ 31 → ticks m p ≡ 0) on (λ _ e. refl) (λ _ e. absurd (not_31 k t e))
  chain_at_31 k (suc l) on t =
      cond_holds (λ p. fault_number (execute m p) ≡ 31 → ticks m p ≡ suc l) on
      (λ _ e.
      let z = past_questions 31 (lit≤ tt) (use_answer m t (read_questions t)) t _ (answer_up_to_30 m t _ (read_up_to_30 t)) e in
      rw z.0 (ap suc (chain_at_31 k l _ _ z.1))) (λ _ e. absurd (not_31 k t e))

  operand_at_31 : (o : Opcode) → fault_number (execute m (with_operand o i r (perform n o.access i r))) ≡ 31 →
      ticks m (with_operand o i r (perform n o.access i r)) ≡ 64
  unfolding with_operand
  operand_at_31 o =
      cond_holds (λ p. fault_number (execute m p) ≡ 31 → ticks m p ≡ 64) o.operand (λ _. chain_at_31 o.access 64 i.i _)
      (λ _ e. absurd (not_31 o.access r.ipr e))

  obey_at_31 : (o : Option Opcode) → fault_number (execute m (obey n r i o)) ≡ 31 → ticks m (obey n r i o) ≡ 64
  unfolding obey execute fault_number
  obey_at_31 none = λ e. absurd (let z : 32 ≡ 31 = e in omega arith)
  obey_at_31 (some o) =
      cond_holds (λ p. fault_number (execute m p) ≡ 31 → ticks m p ≡ 64) (not o.privileged || eqb r.ipr.ring 0)
      (λ _. operand_at_31 o) (λ _ e. absurd (let z : 33 ≡ 31 = e in omega arith))

  -- 32 AND 33: before the address
  obey_at_32_33 : (c : ℕ) → 32 ≤ c → c ≤ 33 → (o : Option Opcode) → fault_number (execute m (obey n r i o)) ≡ c → ticks m (obey n r i o) ≡ 0
  unfolding obey ticks
  obey_at_32_33 c h l none = λ e. refl
  obey_at_32_33 c h l (some o) =
      cond_holds (λ p. fault_number (execute m p) ≡ c → ticks m p ≡ 0) (not o.privileged || eqb r.ipr.ring 0)
      (λ _ e.
      absurd
      (fails_law (λ k. k ≡ c → ⊥) m c (omega arith) _ (operand_fails (λ k. k ≡ c → ⊥) (λ z. omega arith) (λ z. omega arith) n (λ z. omega arith) o i r) e refl)) (λ _ e. refl)

-- the fetch has neither
module _ (m : Machine) (c : ℕ) (above : 30 < c) where
  step_at : (k : ℕ) (t : Pointer) →
      ((i : Instruction) (o : Option Opcode) → fault_number (execute m (obey (length m.memory) m.registers i o)) ≡ c → ticks m (obey (length m.memory) m.registers i o) ≡ k) →
      step m ≡ faults c t → pointer_words m ≡ k
  unfolding step pointer_words step_program execute ticks unless_fault fault_number
  step_at k t f e =
      let ipr = m.registers.ipr in
      let z = past_questions c above (use_answer m ipr (fetch_questions ipr)) ipr _ (answer_up_to_30 m ipr _ (fetch_up_to_30 ipr)) (ap fault_number e) in
      rw z.0 (f _ _ z.1)

pub fault_31_after_64 : Fault31After64
fault_31_after_64 m t = step_at m 31 (lit≤ tt) 64 t (λ i o. obey_at_31 m _ _ i o)

pub fault_32_33_reads_none : Fault3233ReadsNone
fault_32_33_reads_none c m t h l = step_at m c (omega arith) 0 t (λ i o. obey_at_32_33 m _ _ i c h l o)

-- A RUN'S TOTAL
trace_total_within : (v : Delivery) (b : ℕ) (m : Machine) → total_of (trace_from v b m) ≤ 64 * length (trace_from v b m)
unfolding trace_from traced total_of
trace_total_within v zero m = lit≤ tt
trace_total_within v (suc b) m = by_next (next v m) (λ k. trace_total_within v b k)
  where
    by_next : Next v m → ((k : Machine) → total_of (trace_from v b k) ≤ 64 * length (trace_from v b k)) →
        total_of (trace_from v (suc b) m) ≤ 64 * length (trace_from v (suc b) m)
    by_next (next_faults n t e) ih = rw (trace_faults v b n t m e) (lit≤ tt)
    by_next (next_halts k e) ih = rw (trace_halts v b m k e) (let z = pointer_words_within m in omega arith)
    by_next (next_completes k e) ih = rw (trace_completes v b m k e) (let z = pointer_words_within m in let y = ih k in omega arith)

pub total_within : TotalWithin
unfolding total
total_within v b m = rw (run_counts v b m).1 (by_answer (start_questions v m) refl)
  where
    by_answer : (a : ℕ) → start_questions v m ≡ a → total_of (trace v b m) ≤ 64 * length (trace v b m)
    by_answer zero e = rw (trace_goes v b m e) (trace_total_within v b m)
    by_answer (suc n) e = rw (trace_refused v b n m e) (unfold total_of in lit≤ tt)

pub total_continues : TotalContinues
unfolding after ran reply_numbers numbers total
total_continues v j k m e = by_ends (run_ends v j m) e refl
  where
    kind_of : Reply → ℕ
    kind_of p = (reply_numbers p).kind

    by_ends : {x : Ran} → Ends v j m x → x.reply ≡ spent j → x ≡ run v j m → total_of (trace v (j + k) m) ≡ total_of (trace v j m) + total_of (trace v k (run v j m).machine)
    by_ends (by_refusal q) f same = absurd (let z = ap kind_of f in omega arith)
    by_ends (by_fault q s h g) f same = absurd (let z = ap kind_of f in omega arith)
    by_ends (by_halt q s h g) f same = absurd (let z = ap kind_of f in omega arith)
    by_ends (by_budget {k = l} q s) f same =
        ap total_of (trace_goes v (j + k) m q ∙ steps_trace v s k) ∙ total_append (trace_from v j m) (trace_from v k l)
        ∙ ap₂ (λ x y. total_of x + total_of y) (sym (trace_goes v j m q)) (sym (trace_goes v k l (steps_keep_passing v s q)))
        ∙ ap (λ (x : Ran). total_of (trace v j m) + total_of (trace v k x.machine)) same
