-- The answer of plain steps, refused or run, with its pointer words. Assumes nothing.
use mathlib.Core.Path.{◌≡◌, refl, sym, ◌∙◌, ap, ap₂, subst}
use mathlib.Core.Bool.{Bool, true, false, cond}
use mathlib.Core.List.{List, [], ◌∷◌}
use Prim.Native.Nat.{ℕ, zero, suc, ◌+◌, ◌*◌, ◌^◌, ◌≤◌, ◌<◌}
use native.Mathlib.Omega.{arith}
use lib.ListN.{length, take}
use Rattle.model.specs.Registers.{no_delivery, Machine}
use Rattle.model.specs.Answers.{Numbers, reply_numbers}
use Rattle.model.specs.Questions.{start_questions}
use Rattle.model.specs.Program.{Outcome, faults, completes, halts}
use Rattle.model.specs.Step.{pointer_words}
use Rattle.model.specs.Run as Run
use Rattle.model.specs.Run.{ran, total_of}
use Rattle.model.proofs.TickLaws.{pointer_words_within}
use Rattle.state.specs.View.{as_machine}
use Rattle.state.specs.declared.Core.{Core}
use Rattle.state.proofs.PassingLaws.{ipr_passing, address_passing, length_passing}
use Rattle.state.specs.declared.reply.Reply.TheVariants as Reply
use Rattle.dispatch.specs.Plain.{plain_step}
use Rattle.host.specs.Record.{InRecord}
use Rattle.run.specs.Run.{run_by, trace_by, last_by, noted_steps, RanAs, Traced, Counted}
use Rattle.run.specs.declared.Ran.{Ran}
use Rattle.answers.specs.Answer.{AnswersWith}
use Rattle.answers.specs.declared.Answered.{Answered}
use Rattle.answers.proofs.AnswerLaws.{count_completed}
use Rattle.plain.specs.Plain.{PlainAs}

-- WHERE 1 TO 4 PASS, the core fits the host's record
pub passing_in_record : (c : Core) (prs m : List ℕ) → start_questions no_delivery (as_machine c prs m) ≡ 0 → InRecord c
passing_in_record c prs m e =
    let h = ipr_passing _ c prs m e in
    record {
      ring_fits = let z = h.ring_within in omega arith;
      segment_fits = let z = h.segment_within in omega arith;
      word_fits = h.word_within;
      address_fits = let z = address_passing _ c prs m e in omega arith;
      length_fits = let z = length_passing _ c prs m e in omega arith;
    }

-- POINTER WORDS as a single step or as a run
module _ (single : Bool) (t l : ℕ) where
  pub counted_single : single ≡ true → t + l ≡ cond single (t + l) t
  counted_single e = rw e

  pub counted_run : single ≡ false → t ≡ cond single (t + l) t
  counted_run e = rw e

pub ruleset counts = (counted_single, counted_run)

-- at most 64 a step
module _ (step : Machine → Outcome) where
  pub total_few : (b : ℕ) (m : Machine) → total_of (trace_by step b m) ≤ 64 * b
  unfolding trace_by Run.trace_on Run.traced total_of
  total_few zero m = omega arith
  total_few (suc b) m = by_outcome (step m) (λ k. total_few b k)
    where
      by_outcome : (x : Outcome) → ((k : Machine) → total_of (trace_by step b k) ≤ 64 * b) → total_of (Run.trace_on (pointer_words m) x (λ k. trace_by step b k)) ≤ 64 * suc b
      by_outcome (faults n t) h = omega arith
      by_outcome (halts k) h = omega (arith, pointer_words_within m)
      by_outcome (completes k) h = omega (arith, pointer_words_within m, h k)

  pub last_few : (b : ℕ) (m : Machine) → last_by step b m ≤ 64
  unfolding last_by Run.fault_count_on
  last_few zero m = omega arith
  last_few (suc b) m = by_outcome (step m) (λ k. last_few b k)
    where
      by_outcome : (x : Outcome) → ((k : Machine) → last_by step b k ≤ 64) → Run.fault_count_on (pointer_words m) x (λ k. last_by step b k) ≤ 64
      by_outcome (faults n t) h = pointer_words_within m
      by_outcome (halts k) h = omega arith
      by_outcome (completes k) h = h k

  pub sum_fits : (b : ℕ) (m : Machine) (y : Ran) → Counted step b m y → b ≤ 4294967295 → y.total + y.last < 2 ^ 64
  sum_fits b m y k h = omega (arith, total_few b m, last_few b m, k.total_same, k.last_same)

-- THE ANSWER
module _ (single : Bool) (b : ℕ) (c : Core) (prs memory trace : List ℕ) (n : ℕ) (e : n ≡ start_questions no_delivery (as_machine c prs memory)) (x : Answered) where
  pub refused_plainly : (n ≡ 0 → ⊥) → AnswersWith (Reply.Refused n) c 0 x → PlainAs single b c prs memory trace x prs memory trace
  refused_plainly h a =
      record {
        refuses =
            λ k f.
            record {
              numbers_same = a.numbers_same ∙ ap (λ z. reply_numbers (Run.Reply.refused z)) (e ∙ f);
              core_same = a.core_same;
              prs_same = refl;
              memory_same = refl;
              none_read = a.pointers_same;
            };
        runs = λ z. absurd (h (e ∙ z));
        fits = a.fits;
        core_fits = λ f. subst InRecord (sym a.core_same) f;
        trace_size = refl;
      }

  pub run_plainly : n ≡ 0 → (y : Ran) (prs_now memory_now trace_now : List ℕ) → RanAs no_delivery (run_by plain_step b 0 (as_machine c prs memory)) y (as_machine y.core prs_now memory_now) →
      Traced plain_step b (as_machine c prs memory) y trace trace_now → Counted plain_step b (as_machine c prs memory) y → (r : ℕ) → r ≡ cond single (y.total + y.last) y.total →
      AnswersWith y.reply y.core r x → PlainAs single b c prs memory trace x prs_now memory_now trace_now
  unfolding ran
  run_plainly z y prs_now memory_now trace_now r t k i f a =
      let again : start_questions no_delivery (as_machine x.core prs_now memory_now) ≡ 0 = subst (λ d. start_questions no_delivery (as_machine d prs_now memory_now) ≡ 0) (sym a.core_same) r.passes in
      record {
        refuses = λ j g. absurd (omega (arith, e, z, g));
        runs =
            λ _.
            record {
              numbers_same = a.numbers_same ∙ ap (λ (y : Run.Ran). reply_numbers y.reply) (sym r.same);
              machine_same = ap (λ d. as_machine d prs_now memory_now) a.core_same ∙ ap (λ (y : Run.Ran). y.machine) (sym r.same);
              passes = again;
              traced =
                  λ room.
                  ap (λ k. noted_steps (take k trace_now)) (ap (λ (q : Numbers). q.count) a.numbers_same ∙ count_completed y.reply) ∙ t.traced room;
              pointers_same = a.pointers_same ∙ f ∙ ap₂ (λ t l. cond single (t + l) t) k.total_same k.last_same;
            };
        fits = a.fits;
        core_fits = λ _. passing_in_record x.core prs_now memory_now again;
        trace_size = t.size_same;
      }

-- a step keeps no trace
pub without_trace : (c : Core) (prs memory : List ℕ) (x : Answered) (prs_now memory_now trace_now : List ℕ) → PlainAs true 1 c prs memory [] x prs_now memory_now trace_now → PlainAs true 1 c prs memory [] x prs_now memory_now []
without_trace c prs memory x prs_now memory_now trace_now w = by_trace trace_now w.trace_size w
  where
    by_trace : (t : List ℕ) → length t ≡ 0 → PlainAs true 1 c prs memory [] x prs_now memory_now t → PlainAs true 1 c prs memory [] x prs_now memory_now []
    by_trace [] e v = v
    by_trace (n ∷ t) e v = absurd (omega (arith, e))
