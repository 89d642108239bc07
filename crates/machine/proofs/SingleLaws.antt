-- Plain steps that don't stop answer as the run does; a first step that stops leaves all as it was. Assumes nothing.
use mathlib.Core.Path.{◌≡◌, refl, sym, ◌∙◌, ap, ap₂}
use mathlib.Core.Bool.{Bool, true, cond}
use mathlib.Core.List.{List, ◌++◌, append-nil}
use Prim.Native.Nat.{ℕ, zero, suc, ◌+◌, ◌-◌}
use native.Mathlib.Nat.{zero-add}
use native.Mathlib.Omega.{arith}
use Rattle.model.specs.Registers.{Delivery, no_delivery, Machine}
use Rattle.model.specs.Answers.{Numbers, numbers, reply_numbers}
use Rattle.model.specs.Questions.{delivery_in_range, start_questions}
use Rattle.model.specs.Program.{Outcome, faults, completes, halts}
use Rattle.model.specs.Step.{pointer_words}
use Rattle.model.specs.Deliver.{step_with}
use Rattle.model.specs.Run as Run
use Rattle.model.specs.Run.{ran, run, trace_from, total, total_of, fault_count}
use Rattle.model.proofs.DeliveredLaws.{same_start}
use Rattle.model.proofs.RunLaws.{run_refused, run_goes, trace_goes}
use Rattle.model.proofs.TickLaws.{fault_count_goes}
use Rattle.state.specs.View.{as_machine}
use Rattle.state.specs.declared.Core.{Core}
use Rattle.host.specs.Record.{InRecord}
use Rattle.dispatch.specs.Plain.{plain_step}
use Rattle.run.specs.Run.{run_by, trace_by, last_by}
use Rattle.answers.specs.declared.Answered.{Answered}
use Rattle.machine.specs.Answered.{pointers_read, AnsweredAs}
use Rattle.plain.specs.Plain.{PlainAs}
use Rattle.machine.proofs.AnswerLaws.{same_run, same_trace, same_last, none_read}
use Rattle.delivered.proofs.FollowLaws.{followed, follow}

abbrev NoFault : Run.Reply → Type 0
NoFault (Run.Reply.refused n) = Unit {0}
NoFault (Run.Reply.spent n) = Unit {0}
NoFault (Run.Reply.halted n) = Unit {0}
NoFault (Run.Reply.fault i n t) = ⊥

-- what the numbers say
no_fault : (r : Run.Reply) → ((reply_numbers r).kind ≡ 3 → ⊥) → NoFault r
unfolding reply_numbers numbers
no_fault (Run.Reply.refused n) h = tt
no_fault (Run.Reply.spent n) h = tt
no_fault (Run.Reply.halted n) h = tt
no_fault (Run.Reply.fault i n t) h = h refl

-- a run that doesn't fault has no faulting step
none_last : (f : Machine → Outcome) (b c : ℕ) (m : Machine) → NoFault (run_by f b c m).reply → last_by f b m ≡ 0
unfolding run_by last_by Run.run_on Run.fault_count_on ran
none_last f zero c m h = refl
none_last f (suc b) c m h = by_outcome (f m) h (λ k. none_last f b (suc c) k)
  where
    by_outcome : (x : Outcome) → NoFault (Run.run_on c m x (λ k. run_by f b (suc c) k)).reply → ((k : Machine) → NoFault (run_by f b (suc c) k).reply → last_by f b k ≡ 0) →
        Run.fault_count_on (pointer_words m) x (λ k. last_by f b k) ≡ 0
    by_outcome (faults n t) h ih = absurd h
    by_outcome (halts k) h ih = refl
    by_outcome (completes k) h ih = ih k h

-- THE SAME RUN
module _ (v : Delivery) (b : ℕ) (m : Machine) where
  record Same : Type 0 where
    run_same : run_by (step_with v) b 0 m ≡ run_by plain_step b 0 m
    trace_same : trace_by (step_with v) b m ≡ trace_by plain_step b m
    last_same : last_by (step_with v) b m ≡ 0

  same_here : (y : Run.Ran) → run_by plain_step b 0 m ≡ y → followed v 0 b 0 m y.reply y.machine → NoFault y.reply → Same
  unfolding run_by trace_by last_by ran
  same_here y e h g = by_reply y.reply y.machine e h g
    where
      by_reply : (r : Run.Reply) (k : Machine) → run_by plain_step b 0 m ≡ record { reply = r; machine = k } → followed v 0 b 0 m r k → NoFault r → Same
      by_reply (Run.Reply.refused n) k e h g = absurd h
      by_reply (Run.Reply.spent n) k e h g =
          let none : 0 + b - n ≡ 0 = omega (arith, h.0) in
          record {
            run_same = h.1.run_same ∙ ap (λ z. run_by (step_with v) z (0 + n) k) none ∙ ap (λ z. ran (Run.Reply.spent z) k) (zero-add n) ∙ sym e;
            trace_same = h.1.trace_same ∙ ap (λ z. trace_by plain_step b m ++ trace_by (step_with v) z k) none ∙ append-nil (trace_by plain_step b m);
            last_same = h.1.last_same ∙ ap (λ z. last_by (step_with v) z k) none;
          }
      by_reply (Run.Reply.halted n) k e h g = record { run_same = h.run_same ∙ ap (λ z. ran (Run.Reply.halted z) k) (zero-add n) ∙ sym e; trace_same = h.trace_same; last_same = h.last_same }
      by_reply (Run.Reply.fault i n t) k e h g = absurd g

-- THE ANSWER of plain steps
module _ (v : Delivery) (h : delivery_in_range v ≡ true) (single : Bool) (b : ℕ) (c : Core) (prs memory trace : List ℕ) (x : Answered) (prs_now memory_now trace_now : List ℕ)
    (w : PlainAs single b c prs memory trace x prs_now memory_now trace_now) where
  abbrev given : Machine
  given = as_machine c prs memory

  start : (m : Machine) → start_questions v m ≡ start_questions no_delivery m
  start m = same_start v no_delivery h (unfold delivery_in_range in refl) m

  answers_refused : (n : ℕ) → start_questions no_delivery given ≡ suc n → AnsweredAs v single b c prs memory trace x prs_now memory_now trace_now
  unfolding ran
  answers_refused n e =
      let r = w.refuses n e in
      let s = start given ∙ e in
      record {
        numbers_same = r.numbers_same ∙ ap (λ (y : Run.Ran). reply_numbers y.reply) (sym (run_refused v b n given s));
        machine_same = ap (λ d. as_machine d prs_now memory_now) r.core_same ∙ ap₂ (λ p m. as_machine c p m) r.prs_same r.memory_same ∙ ap (λ (y : Run.Ran). y.machine) (sym (run_refused v b n given s));
        fits = w.fits;
        core_fits = w.core_fits;
        passes = λ z. absurd (omega (arith, s, z));
        trace_size = w.trace_size;
        traced = λ z. absurd (omega (arith, s, z));
        pointers_same = r.none_read ∙ none_read v single b (suc n) given (sym s) (λ z. omega (arith, z));
      }

  answers_run : start_questions no_delivery given ≡ 0 → (x.kind ≡ 3 → ⊥) → AnsweredAs v single b c prs memory trace x prs_now memory_now trace_now
  unfolding total ran
  answers_run e k =
      let r = w.runs e in
      let s = start given ∙ e in
      let g : NoFault (run_by plain_step b 0 given).reply = no_fault (run_by plain_step b 0 given).reply (λ z. k (ap (λ (q : Numbers). q.kind) r.numbers_same ∙ z)) in
      let y = same_here v b given (run_by plain_step b 0 given) refl (follow v 0 b 0 given) g in
      let goes : run v b given ≡ run_by plain_step b 0 given = run_goes v b given s ∙ same_run v b 0 given ∙ y.run_same in
      let words : trace_by plain_step b given ≡ Run.trace v b given = sym (trace_goes v b given s ∙ same_trace v b given ∙ y.trace_same) in
      let last : last_by plain_step b given ≡ fault_count v b given = none_last plain_step b 0 given g ∙ sym (fault_count_goes v b given s ∙ same_last v b given ∙ y.last_same) in
      record {
        numbers_same = r.numbers_same ∙ ap (λ (y : Run.Ran). reply_numbers y.reply) (sym goes);
        machine_same = r.machine_same ∙ ap (λ (y : Run.Ran). y.machine) (sym goes);
        fits = w.fits;
        core_fits = w.core_fits;
        passes = λ _. start _ ∙ r.passes;
        trace_size = w.trace_size;
        traced = λ _ room. r.traced room ∙ sym (same_trace v b given ∙ y.trace_same);
        pointers_same = r.pointers_same ∙ ap₂ (λ t l. cond single (total_of t + l) (total_of t)) words last;
      }

  pub plain_answers : (x.kind ≡ 3 → ⊥) → AnsweredAs v single b c prs memory trace x prs_now memory_now trace_now
  plain_answers k = by_start (start_questions no_delivery given) refl
    where
      by_start : (n : ℕ) → start_questions no_delivery given ≡ n → AnsweredAs v single b c prs memory trace x prs_now memory_now trace_now
      by_start zero e = answers_run e k
      by_start (suc n) e = answers_refused n e

-- A FIRST STEP THAT STOPS
pub stops_at_once : (single : Bool) (c : Core) (prs memory trace : List ℕ) (x : Answered) (prs_now memory_now trace_now : List ℕ) → PlainAs single 1 c prs memory trace x prs_now memory_now trace_now →
    x.kind ≡ 3 → as_machine x.core prs_now memory_now ≡ as_machine c prs memory
unfolding reply_numbers numbers run_by Run.run_on ran
stops_at_once single c prs memory trace x prs_now memory_now trace_now w k = by_start (start_questions no_delivery given) refl
  where
    given : Machine
    given = as_machine c prs memory

    by_outcome : (o : Outcome) → (reply_numbers (Run.run_on 0 given o (λ l. run_by plain_step 0 1 l)).reply).kind ≡ 3 → (Run.run_on 0 given o (λ l. run_by plain_step 0 1 l)).machine ≡ given
    by_outcome (faults n t) e = refl
    by_outcome (halts l) e = absurd (omega (arith, e))
    by_outcome (completes l) e = absurd (omega (arith, e))

    by_start : (n : ℕ) → start_questions no_delivery given ≡ n → as_machine x.core prs_now memory_now ≡ given
    by_start zero e = let r = w.runs e in r.machine_same ∙ by_outcome (plain_step given) (sym (ap (λ (q : Numbers). q.kind) r.numbers_same) ∙ k)
    by_start (suc n) e = absurd (omega (arith, k, ap (λ (q : Numbers). q.kind) (w.refuses n e).numbers_same))

-- THE SAME MACHINE answers the same
pub answers_from : (v : Delivery) (single : Bool) (b : ℕ) (c d : Core) (prs memory prs_then memory_then trace : List ℕ) (x : Answered) (prs_now memory_now trace_now : List ℕ) →
    as_machine d prs_then memory_then ≡ as_machine c prs memory → (InRecord c → InRecord d) → AnsweredAs v single b d prs_then memory_then trace x prs_now memory_now trace_now →
    AnsweredAs v single b c prs memory trace x prs_now memory_now trace_now
answers_from v single b c d prs memory prs_then memory_then trace x prs_now memory_now trace_now e f w =
    record {
      numbers_same = w.numbers_same ∙ ap (λ m. reply_numbers (run v b m).reply) e;
      machine_same = w.machine_same ∙ ap (λ m. (run v b m).machine) e;
      fits = w.fits;
      core_fits = λ g. w.core_fits (f g);
      passes = λ z. w.passes (ap (start_questions v) e ∙ z);
      trace_size = w.trace_size;
      traced = λ z room. w.traced (ap (start_questions v) e ∙ z) room ∙ ap (trace_from v b) e;
      pointers_same = w.pointers_same ∙ ap (pointers_read v single b) e;
    }
