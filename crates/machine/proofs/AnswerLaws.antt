-- The whole answer, refused or run, with its pointer words. Assumes nothing.
use mathlib.Core.Path.{◌≡◌, refl, sym, ◌∙◌, ap, ap₂, subst}
use mathlib.Core.Bool.{Bool, true, false, cond}
use mathlib.Core.List.{List, ◌∷◌}
use Prim.Native.Nat.{ℕ, zero, suc, ◌+◌}
use native.Mathlib.Omega.{arith}
use lib.ListN.{take}
use Rattle.model.specs.Registers.{Delivery, no_delivery, Machine}
use Rattle.model.specs.Answers.{Numbers, reply_numbers}
use Rattle.model.specs.Questions.{delivery_in_range, start_questions}
use Rattle.model.specs.Program.{Outcome, faults, completes, halts}
use Rattle.model.specs.Step.{pointer_words}
use Rattle.model.specs.Deliver.{step_with}
use Rattle.model.specs.Run as Run
use Rattle.model.specs.Run.{ran, run_from, run, trace_from, total, total_of, fault_count_from, fault_count}
use Rattle.model.proofs.SoundLaws.{delivery_passes}
use Rattle.model.proofs.DeliveredLaws.{same_start}
use Rattle.model.proofs.RunLaws.{run_refused, run_goes, trace_refused, trace_goes}
use Rattle.model.proofs.TickLaws.{fault_count_goes, fault_count_refused}
use Rattle.questions.specs.Numbers.{start_number}
use Rattle.questions.specs.declared.start.StartError.{StartError}
use Rattle.state.specs.View.{as_machine}
use Rattle.state.specs.declared.Core.{Core}
use Rattle.state.specs.Reply.{as_reply}
use Rattle.state.specs.declared.reply.Reply.TheVariants as Reply
use Rattle.host.specs.Record.{InRecord}
use Rattle.run.specs.Run.{run_by, trace_by, last_by, noted_steps, RanAs, Traced, Counted}
use Rattle.run.specs.declared.Ran.{Ran}
use Rattle.answers.specs.Answer.{AnswersWith}
use Rattle.answers.specs.declared.Answered.{Answered}
use Rattle.answers.proofs.AnswerLaws.{count_completed}
use Rattle.machine.specs.Answered.{pointers_read, AnsweredAs}
use Rattle.plain.proofs.PlainLaws.{passing_in_record}

pub from_one : (e : StartError) → start_number e ≡ 0 → ⊥
from_one StartError.MemoryTooLarge z = omega (arith, z)
from_one StartError.OutOfRange z = omega (arith, z)
from_one StartError.RingsBelow z = omega (arith, z)
from_one StartError.BaseOutsideMemory z = omega (arith, z)

module _ (dv : Delivery) where
  -- THE DEFINITION'S RUN is the run by its step
  pub same_run : (b c : ℕ) (m : Machine) → run_from dv b c m ≡ run_by (step_with dv) b c m
  unfolding run_from run_by Run.run_on
  same_run zero c m = refl
  same_run (suc b) c m = by_outcome (step_with dv m) (λ k. same_run b (suc c) k)
    where
      by_outcome : (x : Outcome) → ((k : Machine) → run_from dv b (suc c) k ≡ run_by (step_with dv) b (suc c) k) → Run.run_on c m x (λ k. run_from dv b (suc c) k) ≡ Run.run_on c m x (λ k. run_by (step_with dv) b (suc c) k)
      by_outcome (faults n t) h = refl
      by_outcome (halts k) h = refl
      by_outcome (completes k) h = h k

  pub same_trace : (b : ℕ) (m : Machine) → trace_from dv b m ≡ trace_by (step_with dv) b m
  unfolding trace_from trace_by Run.trace_on
  same_trace zero m = refl
  same_trace (suc b) m = by_outcome (step_with dv m) (λ k. same_trace b k)
    where
      by_outcome : (x : Outcome) → ((k : Machine) → trace_from dv b k ≡ trace_by (step_with dv) b k) → Run.trace_on (pointer_words m) x (λ k. trace_from dv b k) ≡ Run.trace_on (pointer_words m) x (λ k. trace_by (step_with dv) b k)
      by_outcome (faults n t) h = refl
      by_outcome (halts k) h = refl
      by_outcome (completes k) h = ap (λ l. Run.traced k (pointer_words m) ∷ l) (h k)

  pub same_last : (b : ℕ) (m : Machine) → fault_count_from dv b m ≡ last_by (step_with dv) b m
  unfolding fault_count_from last_by Run.fault_count_on
  same_last zero m = refl
  same_last (suc b) m = by_outcome (step_with dv m) (λ k. same_last b k)
    where
      by_outcome : (x : Outcome) → ((k : Machine) → fault_count_from dv b k ≡ last_by (step_with dv) b k) → Run.fault_count_on (pointer_words m) x (λ k. fault_count_from dv b k) ≡ Run.fault_count_on (pointer_words m) x (λ k. last_by (step_with dv) b k)
      by_outcome (faults n t) h = refl
      by_outcome (halts k) h = refl
      by_outcome (completes k) h = h k

  -- 1 to 4 pass without the switch and its segments too
  pub plainly_passes : (m : Machine) → start_questions dv m ≡ 0 → start_questions no_delivery m ≡ 0
  plainly_passes m e = sym (same_start dv no_delivery (delivery_passes dv m e) (unfold delivery_in_range in refl) m) ∙ e

  -- a refused run reads none
  pub none_read : (single : Bool) (b n : ℕ) (m : Machine) → n ≡ start_questions dv m → (n ≡ 0 → ⊥) → 0 ≡ pointers_read dv single b m
  unfolding total total_of
  none_read single b zero m e f = absurd (f refl)
  none_read single b (suc n) m e f = by_kind single (ap total_of (trace_refused dv b n m (sym e))) (fault_count_refused dv b n m (sym e))
    where
      by_kind : (s : Bool) → total dv b m ≡ 0 → fault_count dv b m ≡ 0 → 0 ≡ pointers_read dv s b m
      by_kind true g h = omega (arith, g, h)
      by_kind false g h = sym g

  module _ (b : ℕ) (m : Machine) (e : start_questions dv m ≡ 0) (y : Ran) (k : Counted (step_with dv) b m y) where
    total_here : y.total ≡ total dv b m
    unfolding total
    total_here = k.total_same ∙ ap total_of (sym (trace_goes dv b m e ∙ same_trace b m))

    last_here : y.last ≡ fault_count dv b m
    last_here = k.last_same ∙ sym (fault_count_goes dv b m e ∙ same_last b m)

    some_read : (single : Bool) (r : ℕ) → r ≡ cond single (y.total + y.last) y.total → r ≡ pointers_read dv single b m
    some_read single r f = f ∙ ap₂ (λ t l. cond single (t + l) t) total_here last_here

  pub still_passes : (m k : Machine) (n : ℕ) → n ≡ start_questions dv m → k ≡ m → n ≡ 0 → start_questions dv k ≡ 0
  still_passes m k n e left z = ap (start_questions dv) left ∙ sym e ∙ z

  -- 1 to 4 were asked, which left the machine as it was
  module _ (single : Bool) (b : ℕ) (c : Core) (prs memory trace : List ℕ) (n : ℕ) (e : n ≡ start_questions dv (as_machine c prs memory)) (prs_then memory_then : List ℕ)
      (left : as_machine c prs_then memory_then ≡ as_machine c prs memory) (x : Answered) where
    pub refused_whole : (n ≡ 0 → ⊥) → AnswersWith (Reply.Refused n) c 0 x → AnsweredAs dv single b c prs memory trace x prs_then memory_then trace
    unfolding ran
    refused_whole h a =
        record {
          numbers_same = a.numbers_same ∙ ap (λ (y : Run.Ran). reply_numbers y.reply) (sym refuses);
          machine_same = ap (λ d. as_machine d prs_then memory_then) a.core_same ∙ left ∙ ap (λ (y : Run.Ran). y.machine) (sym refuses);
          fits = a.fits;
          core_fits = λ f. subst InRecord (sym a.core_same) f;
          passes = λ z. absurd (h (e ∙ z));
          trace_size = refl;
          traced = λ z. absurd (h (e ∙ z));
          pointers_same = a.pointers_same ∙ none_read single b n (as_machine c prs memory) e h;
        }
      where
        by_number : (m : Machine) (n : ℕ) → n ≡ start_questions dv m → (n ≡ 0 → ⊥) → run dv b m ≡ ran (Run.Reply.refused n) m
        by_number m zero e f = absurd (f refl)
        by_number m (suc n) e f = run_refused dv b n m (sym e)

        refuses : run dv b (as_machine c prs memory) ≡ ran (Run.Reply.refused n) (as_machine c prs memory)
        refuses = by_number (as_machine c prs memory) n e h

    pub run_whole : n ≡ 0 → (y : Ran) (prs_now memory_now trace_now : List ℕ) → RanAs dv (run_by (step_with dv) b 0 (as_machine c prs_then memory_then)) y (as_machine y.core prs_now memory_now) →
        Traced (step_with dv) b (as_machine c prs_then memory_then) y trace trace_now → Counted (step_with dv) b (as_machine c prs_then memory_then) y → (r : ℕ) →
        r ≡ cond single (y.total + y.last) y.total → AnswersWith y.reply y.core r x → AnsweredAs dv single b c prs memory trace x prs_now memory_now trace_now
    unfolding ran
    run_whole z y prs_now memory_now trace_now r t k i f a =
        let m = as_machine c prs memory in
        let goes : run dv b m ≡ ran (as_reply y.reply) (as_machine y.core prs_now memory_now) = run_goes dv b m (sym e ∙ z) ∙ same_run b 0 m ∙ ap (run_by (step_with dv) b 0) (sym left) ∙ r.same in
        let again : start_questions dv (as_machine x.core prs_now memory_now) ≡ 0 = subst (λ d. start_questions dv (as_machine d prs_now memory_now) ≡ 0) (sym a.core_same) r.passes in
        record {
          numbers_same = a.numbers_same ∙ ap (λ (y : Run.Ran). reply_numbers y.reply) (sym goes);
          machine_same = ap (λ d. as_machine d prs_now memory_now) a.core_same ∙ ap (λ (y : Run.Ran). y.machine) (sym goes);
          fits = a.fits;
          core_fits = λ _. passing_in_record x.core prs_now memory_now (plainly_passes _ again);
          passes = λ _. again;
          trace_size = t.size_same;
          traced =
              λ _ room.
              ap (λ k. noted_steps (take k trace_now)) (ap (λ (q : Numbers). q.count) a.numbers_same ∙ count_completed y.reply) ∙ t.traced room
              ∙ ap (trace_by (step_with dv) b) left ∙ sym (same_trace b m);
          pointers_same = a.pointers_same ∙ some_read b m (sym e ∙ z) y (subst (λ q. Counted (step_with dv) b q y) left k) single i f;
        }
