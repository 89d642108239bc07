-- The step at which plain steps stop: its pointer words, and the part that it is once it is settled. Assumes nothing.
use mathlib.Core.Path.{◌≡◌, refl, sym, ◌∙◌, ap, subst}
use mathlib.Core.Bool.{true}
use Rattle.std.specs.Prelude.{None, Some}
use mathlib.Core.List.{List}
use mathlib.Core.Logic.{inl, inr}
use Prim.Native.Nat.{ℕ, ◌+◌, ◌≤◌, ◌<◌}
use native.Mathlib.Omega.{arith}
use lib.ListN.{length}
use Rattle.model.specs.Words as Words
use Rattle.model.specs.Registers.{Delivery, no_delivery, Machine}
use Rattle.model.specs.Questions.{start_questions}
use Rattle.model.specs.Program.{faults, completes, halts, execute}
use Rattle.model.specs.Step.{step, pointer_words}
use Rattle.model.specs.Deliver.{step_with}
use Rattle.model.specs.Run as Run
use Rattle.model.specs.Run.{ran, total_of}
use Rattle.model.proofs.ProgramLaws.{SizeKept}
use Rattle.model.proofs.DeliverLaws.{step_keeps_size, step_keeps_passing}
use Rattle.model.proofs.TickLaws.{pointer_words_within}
use Rattle.words.specs.View.{as_pointer, PointerWithin}
use Rattle.words.specs.declared.pointer.Pointer.{Pointer}
use Rattle.state.specs.View.{as_pointers, machine_with, as_machine, ended}
use Rattle.state.specs.declared.Core.{Core}
use Rattle.state.specs.declared.End.{End}
use Rattle.state.specs.declared.End.TheVariants.{Completed, Halted, Faulted}
use Rattle.state.proofs.PassingLaws.{ipr_passing}
use Rattle.state.specs.declared.reply.Reply.TheVariants as Reply
use Rattle.dispatch.specs.Plain.{plain_step, stopped}
use Rattle.dispatch.proofs.PlainLaws.{plain_stops}
use Rattle.settle.specs.Settles.{EndWithin, Settles}
use Rattle.restore.specs.declared.Settled.{Settled}
use Rattle.run.specs.Run.{last_by, Noted, OnTheWay}
use Rattle.run.proofs.RunLaws.{run_faults, trace_faults, last_faults, way_starts, way_faults, way_halts, way_goes_on}
use Rattle.answers.specs.declared.Answered.{Answered}
use Rattle.plain.specs.Plain.{PlainAs}
use Rattle.delivered.specs.Parts.{AtAStop, PartAs}
use Rattle.delivered.proofs.FollowLaws.{passes_plainly}

-- A STOP once more, as a single step
module _ (c : Core) (prs memory trace : List ℕ) (e : start_questions no_delivery (as_machine c prs memory) ≡ 0) (s : AtAStop (as_machine c prs memory)) (x : Answered)
    (prs_now memory_now trace_now : List ℕ) (p : PlainAs true 1 c prs memory trace x prs_now memory_now trace_now) where
  stopped_there : as_machine x.core prs_now memory_now ≡ as_machine c prs memory
  unfolding ran
  stopped_there =
      (p.runs e).machine_same
      ∙ ap (λ (y : Run.Ran). y.machine) (run_faults plain_step no_delivery 0 0 (as_machine c prs memory) s.number s.pointer s.stops)

  words_read : x.pointers ≡ pointer_words (as_machine c prs memory)
  unfolding total_of
  words_read =
      (p.runs e).pointers_same
      ∙ ap (λ l. total_of l + last_by plain_step 1 (as_machine c prs memory)) (trace_faults plain_step no_delivery 0 (as_machine c prs memory) s.number s.pointer s.stops)
      ∙ (let z = last_faults plain_step no_delivery 0 (as_machine c prs memory) s.number s.pointer s.stops in omega arith)

  pub stop_counted : (x.pointers ≡ pointer_words (as_machine c prs memory)) × (x.pointers ≤ 64) × (as_machine c prs_now memory_now ≡ as_machine c prs memory)
  stop_counted = (
    words_read,
    omega (arith, words_read, pointer_words_within (as_machine c prs memory)),
    ap (λ ps. machine_with c ps memory_now) (ap (λ (y : Machine). y.registers.prs) stopped_there) ∙ ap (λ l. machine_with c (as_pointers prs) l) (ap (λ (y : Machine). y.memory) stopped_there),
  )

-- THE STEP THAT STOPPED, settled; the machine stands as it stood
module _ (v : Delivery) (m : Machine) (e : start_questions v m ≡ 0) where
  pub stop_needs : (n : ℕ) (p : Words.Pointer) → plain_step m ≡ faults n p → (start_questions no_delivery m ≡ 0) × AtAStop m
  stop_needs n p s = (passes_plainly v m e m e, record { number = n; pointer = p; stops = s })

  module _ (now : Machine) (same : now ≡ m) where
    pub settle_needs : (n : ℕ) (p : Pointer) → plain_step m ≡ faults n (as_pointer p) → PointerWithin p →
        (start_questions v now ≡ 0) × (step now ≡ execute now (stopped (length now.memory) n (as_pointer p))) × PointerWithin p
    settle_needs n p s w = (ap (start_questions v) same ∙ e, plain_stops now n (as_pointer p) (ap plain_step same ∙ s), w)

    module _ (y : Settled) (k : Machine) (d : Settles v now y k) where
      ended_as : (z : End) → y.end ≡ z → ended m (step_with v m) z k
      ended_as z f = subst (λ q. ended q (step_with v q) z k) same (subst (λ q. ended now (step_with v now) q k) f d.ends)

      completed_so : y.end ≡ Completed → step_with v m ≡ completes k
      unfolding ended
      completed_so f = ended_as Completed f

      halted_so : y.end ≡ Halted → step_with v m ≡ halts k
      unfolding ended
      halted_so f = ended_as Halted f

      passes_completed : y.end ≡ Completed → start_questions v k ≡ 0
      passes_completed f = step_keeps_passing v m k e (inl (completed_so f))

      passes_halted : y.end ≡ Halted → start_questions v k ≡ 0
      passes_halted f = step_keeps_passing v m k e (inr (halted_so f))

-- IPR fits the trace after it
module _ (v : Delivery) (m : Machine) (e : start_questions v m ≡ 0) (now : Machine) (same : now ≡ m) (y : Settled) (prs memory : List ℕ)
    (d : Settles v now y (as_machine y.core prs memory)) where
  pub ipr_completed : y.end ≡ Completed → PointerWithin y.core.ipr
  ipr_completed f = ipr_passing _ y.core prs memory (passes_completed v m e now same y (as_machine y.core prs memory) d f)

  pub ipr_halted : y.end ≡ Halted → PointerWithin y.core.ipr
  ipr_halted f = ipr_passing _ y.core prs memory (passes_halted v m e now same y (as_machine y.core prs memory) d f)

-- and the part that it is
module _ (v : Delivery) (b c before : ℕ) (m : Machine) (t : List ℕ) (e : start_questions v m ≡ 0) (h : c < b) (last : ℕ) (counted : last ≡ pointer_words m) (few : last ≤ 64)
    (now : Machine) (same : now ≡ m) (y : Settled) (k : Machine) (d : Settles v now y k) where
  starts : OnTheWay (step_with v) v b c m t c 0 m t
  starts = way_starts (step_with v) v b c m t (omega arith) e

  module _ (u : List ℕ) (w : Noted c (record { ipr = k.registers.ipr; pointers = last }) t u) (core : Core) where
    pub stop_completed : y.end ≡ Completed →
        PartAs v b c before m t (record { core = core; count = c + 1; read = before + last; end = None }) k u
    stop_completed f =
        record {
          words = 0 + last;
          read_same = omega arith;
          led = (
            way_goes_on (step_with v) v b c m t c 0 m t starts h last (sym counted) k u w (completed_so v m e now same y k d f) (passes_completed v m e now same y k d f)
                (subst (SizeKept (length m.memory)) (completed_so v m e now same y k d f) (step_keeps_size v m)),
            omega arith,
          );
          count_within = omega arith;
          few = omega arith;
        }

    pub stop_halted : y.end ≡ Halted →
        PartAs v b c before m t (record { core = core; count = c + 1; read = before + last; end = Some (record { reply = Reply.Halted (c + 1); last = 0 }) }) k u
    stop_halted f =
        record {
          words = 0 + last;
          read_same = omega arith;
          led = (way_halts (step_with v) v b c m t c 0 m t starts h last (sym counted) k u w (halted_so v m e now same y k d f) (passes_halted v m e now same y k d f), refl, tt);
          count_within = omega arith;
          few = omega arith;
        }

  pub stop_faulted : (n : ℕ) (p : Pointer) → y.end ≡ Faulted n p → (core : Core) →
      PartAs v b c before m t (record { core = core; count = c; read = before; end = Some (record { reply = Reply.Fault n c p; last = last }) }) k t
  unfolding ended
  stop_faulted n p f core =
      let z = ended_as v m e now same y k d (Faulted n p) f in
      record {
        words = 0;
        read_same = omega arith;
        led = (way_faults (step_with v) v b c m t c 0 m t starts h last (sym counted) k n p z.0 z.1, refl, subst EndWithin f d.within);
        count_within = omega arith;
        few = omega arith;
      }
