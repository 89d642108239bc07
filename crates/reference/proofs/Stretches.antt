-- A stretch of the model, without delivery, is as long as 03's. Assumes nothing.
use mathlib.Core.Path.{◌≡◌, refl, sym, ◌∙◌, ap, subst}
use mathlib.Core.Bool.{Bool, true, false, ◌&&◌, cond}
use Prim.Native.Nat.{ℕ, zero, suc, ◌+◌}
use native.Mathlib.Omega.{arith}
use native.Mathlib.Nat.{zero-add}
use lib.Dec.{ltb, eqb}
use lib.ListN.{length}
use borrow.Author.Tests.{eq-eqb}
use Rattle.model.specs.Words.{Pointer}
use Rattle.model.specs.Registers.{no_delivery, Machine}
use Rattle.model.specs.Questions.{start_questions}
use Rattle.model.specs.Program.{Outcome, faults, completes, halts}
use Rattle.model.specs.Step.{step, pointer_words}
use Rattle.model.specs.Deliver.{delivers, deliver, step_with, is_delivered}
use Rattle.model.specs.Run.{unless_refused, run, traced, trace_on, trace_from, trace, stretch_on, stretch_from, stretch}
use Rattle.model.specs.Answers.{reply_numbers}
use Rattle.model.proofs.BranchLaws.{cond_rel}
use Rattle.model.proofs.CountLaws.{run_counts}
use Rattle.model.proofs.RunLaws.{trace_goes, trace_refused}
use Rattle.reference.specs.Run as Run03
use Rattle.reference.specs.Promise as Promise03
use Rattle.reference.specs.View as View
use Rattle.reference.specs.Equal.{StretchEqual}
use Rattle.reference.proofs.Runs.{run_equal}
use Rattle.reference.proofs.TraceLaws.{Trails, trace_trails}

and_true : (a b : Bool) → b ≡ true → a ≡ (a && b)
and_true true b e = sym e
and_true false b e = refl

module _ (n : ℕ) (o : Machine) where
  -- 03's test after step c + 1, where there is one
  tested : (c : ℕ) (p : Pointer) → p ≡ (run no_delivery (suc c) o).machine.registers.ipr → suc c ≡ (reply_numbers (run no_delivery (suc c) o).reply).count →
      ltb p.ring n
      ≡ (ltb (Run03.run (suc c) (View.machine o)).machine.regs.ipr.ring n && eqb (Run03.run (suc c) (View.machine o)).reply.count (suc c))
  tested c p at count =
      let r = Run03.run (suc c) (View.machine o) in
      ap (λ (q : Pointer). ltb q.ring n) at ∙ ap (λ (x : Run03.Ran). ltb x.machine.regs.ipr.ring n) (run_equal (suc c) o)
      ∙ and_true (ltb r.machine.regs.ipr.ring n) (eqb r.reply.count (suc c))
      (eq-eqb r.reply.count (suc c) (sym (count ∙ ap (λ (x : Run03.Ran). x.reply.count) (run_equal (suc c) o))))

  -- from step c + 1 on
  stretch_view : (b c : ℕ) (m : Machine) → Trails no_delivery o c (trace_from no_delivery b m) →
      c + stretch_from no_delivery n b m ≡ Promise03.stretch_from (length (trace_from no_delivery b m)) (suc c) n (c + b) (View.machine o)
  unfolding delivers deliver step_with is_delivered traced trace_on trace_from stretch_on stretch_from Promise03.stretch_from
  stretch_view zero c m h = refl
  stretch_view (suc b) c m h = by_outcome (step m) (λ k. stretch_view b (suc c) k) h
    where
      later : (x : ℕ) → c + suc x ≡ suc c + x
      later x = omega arith

      by_outcome : (x : Outcome) →
          ((k : Machine) → Trails no_delivery o (suc c) (trace_from no_delivery b k) →
          suc c + stretch_from no_delivery n b k ≡ Promise03.stretch_from (length (trace_from no_delivery b k)) (suc (suc c)) n (suc c + b) (View.machine o)) →
          Trails no_delivery o c (trace_on (pointer_words m) (deliver no_delivery m x) (λ k. trace_from no_delivery b k)) →
          c + cond (is_delivered no_delivery m x) 0 (stretch_on n b x (λ k. stretch_from no_delivery n b k))
          ≡ Promise03.stretch_from (length (trace_on (pointer_words m) (deliver no_delivery m x) (λ k. trace_from no_delivery b k))) (suc c) n (c + suc b) (View.machine o)
      by_outcome (faults k t) more h = refl
      by_outcome (completes k) more h =
          cond_rel (λ x y. c + suc x ≡ y) {b = ltb k.registers.ipr.ring n} (tested c k.registers.ipr h.0 h.2) (λ _. omega arith) (λ _. rw (later (stretch_from no_delivery n b k), later b) (more k h.3))
      by_outcome (halts k) more h =
          cond_rel (λ x y. c + suc x ≡ y) {b = ltb k.registers.ipr.ring n} (tested c k.registers.ipr h.0 h.2) (λ _. omega arith) (λ _. refl)

pub stretch_equal : StretchEqual
unfolding unless_refused stretch Promise03.stretch Promise03.stretch_from
stretch_equal n b m =
    by_answer (start_questions no_delivery m) refl
    ∙ ap (λ k. Promise03.stretch_from k 1 n b (View.machine m))
    (sym (run_counts no_delivery b m).1 ∙ ap (λ (x : Run03.Ran). x.reply.count) (run_equal b m))
  where
    by_answer : (a : ℕ) → start_questions no_delivery m ≡ a →
        unless_refused a (λ _. b) (stretch_from no_delivery n b m) ≡ Promise03.stretch_from (length (trace no_delivery b m)) 1 n b (View.machine m)
    by_answer zero e =
        rw (trace_goes no_delivery b m e)
        (simp zero-add at (stretch_view n m b 0 m (subst (λ xs. Trails no_delivery m 0 xs) (trace_goes no_delivery b m e) (trace_trails no_delivery b m))))
    by_answer (suc a) e = rw (trace_refused no_delivery b a m e) refl
