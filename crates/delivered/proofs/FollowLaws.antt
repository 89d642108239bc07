-- A run with delivery is plain runs one after another, each with the step at which it stops. Assumes nothing.
use mathlib.Core.Path.{◌≡◌, refl, sym, ◌∙◌, ap, subst}
use mathlib.Core.List.{[], ◌∷◌, ◌++◌}
use Prim.Native.Nat.{ℕ, zero, suc, ◌+◌, ◌-◌, ◌*◌, ◌≤◌, ◌<◌}
use native.Mathlib.Omega.{arith}
use lib.ListN.{length}
use Rattle.model.specs.Registers.{Delivery, no_delivery, Machine}
use Rattle.model.specs.Questions.{delivery_in_range, start_questions}
use Rattle.model.specs.Program.{Outcome, faults, completes, halts}
use Rattle.model.specs.Step.{pointer_words}
use Rattle.model.specs.Deliver.{step_with}
use Rattle.model.specs.Run as Run
use Rattle.model.specs.Run.{ran, total_of}
use Rattle.model.proofs.ProgramLaws.{SizeKept}
use Rattle.model.proofs.DeliverLaws.{step_keeps_size}
use Rattle.model.proofs.DeliveredLaws.{completes_as_plain, same_start}
use Rattle.model.proofs.SoundLaws.{delivery_passes}
use Rattle.model.proofs.TickLaws.{pointer_words_within}
use Rattle.dispatch.specs.Plain.{plain_step}
use Rattle.dispatch.proofs.PlainLaws.{plain_completes, plain_halts}
use Rattle.run.specs.Run.{run_by, trace_by, last_by}
use Rattle.run.proofs.RunLaws.{run_faults, run_halts, run_completes, trace_faults, trace_halts, trace_completes, last_halts, last_completes}

module _ (v : Delivery) where
  -- 1 to 4 ask of a delivery only its own range, so where they passed once both ask the same
  module _ (m : Machine) (e : start_questions v m ≡ 0) (k : Machine) where
    same_questions : start_questions v k ≡ start_questions no_delivery k
    same_questions = same_start v no_delivery (delivery_passes v m e) (unfold delivery_in_range in refl) k

    pub passes_plainly : start_questions v k ≡ 0 → start_questions no_delivery k ≡ 0
    passes_plainly f = sym same_questions ∙ f

    pub passes_with : start_questions no_delivery k ≡ 0 → start_questions v k ≡ 0
    passes_with f = same_questions ∙ f

  step_completes : (m k : Machine) → plain_step m ≡ completes k → step_with v m ≡ completes k
  step_completes m k e = (completes_as_plain v m k).0 (plain_completes m k e)

  step_halts : (m k : Machine) → plain_step m ≡ halts k → step_with v m ≡ halts k
  step_halts m k e = (completes_as_plain v m k).1 (plain_halts m k e)

  -- b plain steps from m, with c counted, lead to k with n counted; the run with delivery, which counts j more, goes on from there
  pub record Ahead (j b c : ℕ) (m : Machine) (n : ℕ) (k : Machine) : Type 0 where
    pub within_budget : n ≤ c + b
    pub size_same : length k.memory ≡ length m.memory
    pub run_same : run_by (step_with v) b (j + c) m ≡ run_by (step_with v) (c + b - n) (j + n) k
    pub trace_same : trace_by (step_with v) b m ≡ trace_by plain_step b m ++ trace_by (step_with v) (c + b - n) k
    pub last_same : last_by (step_with v) b m ≡ last_by (step_with v) (c + b - n) k
    pub few : 64 * c + total_of (trace_by plain_step b m) ≤ 64 * n

  -- or they are the whole run with delivery, which halts
  pub record Whole (j b c : ℕ) (m : Machine) (n : ℕ) (k : Machine) : Type 0 where
    pub within_budget : n ≤ c + b
    pub run_same : run_by (step_with v) b (j + c) m ≡ ran (Run.Reply.halted (j + n)) k
    pub trace_same : trace_by (step_with v) b m ≡ trace_by plain_step b m
    pub last_same : last_by (step_with v) b m ≡ 0
    pub few : 64 * c + total_of (trace_by plain_step b m) ≤ 64 * n

  -- by what the plain steps answer
  abbrev pub followed : (j b c : ℕ) → Machine → Run.Reply → Machine → Type 0
  followed j b c m (Run.Reply.refused n) k = ⊥
  followed j b c m (Run.Reply.spent n) k = (n ≡ c + b) × Ahead j b c m n k
  followed j b c m (Run.Reply.halted n) k = Whole j b c m n k
  followed j b c m (Run.Reply.fault i n t) k = (n < c + b) × (plain_step k ≡ faults i t) × Ahead j b c m n k

  -- no step
  ahead_here : (j b c : ℕ) (m : Machine) → trace_by plain_step b m ≡ [] → Ahead j b c m c m
  unfolding total_of
  ahead_here j b c m e =
      let left : b ≡ c + b - c = omega arith in
      record {
        within_budget = omega arith;
        size_same = refl;
        run_same = ap (λ z. run_by (step_with v) z (j + c) m) left;
        trace_same = ap (λ z. trace_by (step_with v) z m) left ∙ ap (λ l. l ++ trace_by (step_with v) (c + b - c) m) (sym e);
        last_same = ap (λ z. last_by (step_with v) z m) left;
        few = rw e (omega arith);
      }

  -- a step that completes, before the others
  module _ (j b c : ℕ) (m l : Machine) (e : plain_step m ≡ completes l) (n : ℕ) (k : Machine) where
    plain_trace : trace_by plain_step (suc b) m ≡ Run.traced l (pointer_words m) ∷ trace_by plain_step b l
    plain_trace = trace_completes plain_step v b m l e

    more_words : 64 * suc c + total_of (trace_by plain_step b l) ≤ 64 * n → 64 * c + total_of (trace_by plain_step (suc b) m) ≤ 64 * n
    unfolding total_of Run.traced
    more_words h = rw plain_trace (omega (arith, h, pointer_words_within m))

    left : suc c + b - n ≡ c + suc b - n
    left = omega arith

    ahead_more : Ahead j b (suc c) l n k → Ahead j (suc b) c m n k
    ahead_more h =
        record {
          within_budget = omega (arith, h.within_budget);
          size_same = h.size_same ∙ subst (SizeKept (length m.memory)) (step_completes m l e) (step_keeps_size v m);
          run_same =
              run_completes (step_with v) v b (j + c) m l (step_completes m l e) ∙ ap (λ z. run_by (step_with v) b z l) (let z : suc (j + c) ≡ j + suc c = omega arith in z)
              ∙ h.run_same ∙ ap (λ z. run_by (step_with v) z (j + n) k) left;
          trace_same =
              trace_completes (step_with v) v b m l (step_completes m l e) ∙ ap (λ z. Run.traced l (pointer_words m) ∷ z) h.trace_same
              ∙ ap (λ z. z ++ trace_by (step_with v) (suc c + b - n) k) (sym plain_trace)
              ∙ ap (λ z. trace_by plain_step (suc b) m ++ trace_by (step_with v) z k) left;
          last_same = last_completes (step_with v) v b m l (step_completes m l e) ∙ h.last_same ∙ ap (λ z. last_by (step_with v) z k) left;
          few = more_words h.few;
        }

    whole_more : Whole j b (suc c) l n k → Whole j (suc b) c m n k
    whole_more h =
        record {
          within_budget = omega (arith, h.within_budget);
          run_same =
              run_completes (step_with v) v b (j + c) m l (step_completes m l e) ∙ ap (λ z. run_by (step_with v) b z l) (let z : suc (j + c) ≡ j + suc c = omega arith in z)
              ∙ h.run_same;
          trace_same =
              trace_completes (step_with v) v b m l (step_completes m l e) ∙ ap (λ z. Run.traced l (pointer_words m) ∷ z) h.trace_same ∙ sym plain_trace;
          last_same = last_completes (step_with v) v b m l (step_completes m l e) ∙ h.last_same;
          few = more_words h.few;
        }

  followed_more : (j b c : ℕ) (m l : Machine) → plain_step m ≡ completes l → (r : Run.Reply) (k : Machine) → followed j b (suc c) l r k → followed j (suc b) c m r k
  followed_more j b c m l e (Run.Reply.refused n) k h = h
  followed_more j b c m l e (Run.Reply.spent n) k h = (omega (arith, h.0), ahead_more j b c m l e n k h.1)
  followed_more j b c m l e (Run.Reply.halted n) k h = whole_more j b c m l e n k h
  followed_more j b c m l e (Run.Reply.fault i n t) k h = (omega (arith, h.0), h.1, ahead_more j b c m l e n k h.2)

  -- HLT
  whole_halts : (j b c : ℕ) (m k : Machine) → plain_step m ≡ halts k → Whole j (suc b) c m (suc c) k
  unfolding total_of Run.traced
  whole_halts j b c m k e =
      let s = step_halts m k e in
      let p = trace_halts plain_step v b m k e in
      record {
        within_budget = omega arith;
        run_same = run_halts (step_with v) v b (j + c) m k s ∙ ap (λ z. ran (Run.Reply.halted z) k) (omega arith);
        trace_same = trace_halts (step_with v) v b m k s ∙ sym p;
        last_same = last_halts (step_with v) v b m k s;
        few = rw p (omega (arith, pointer_words_within m));
      }

  pub follow : (j b c : ℕ) (m : Machine) → followed j b c m (run_by plain_step b c m).reply (run_by plain_step b c m).machine
  unfolding run_by trace_by ran
  follow j zero c m = (omega arith, ahead_here j 0 c m refl)
  follow j (suc b) c m = by_outcome (plain_step m) refl (λ l. follow j b (suc c) l)
    where
      by_outcome : (x : Outcome) → plain_step m ≡ x → ((l : Machine) → followed j b (suc c) l (run_by plain_step b (suc c) l).reply (run_by plain_step b (suc c) l).machine) →
          followed j (suc b) c m (run_by plain_step (suc b) c m).reply (run_by plain_step (suc b) c m).machine
      by_outcome (faults i t) e ih =
          subst (λ (y : Run.Ran). followed j (suc b) c m y.reply y.machine) (sym (run_faults plain_step v b c m i t e))
          (omega arith, e, ahead_here j (suc b) c m (trace_faults plain_step v b m i t e))
      by_outcome (halts k) e ih =
          subst (λ (y : Run.Ran). followed j (suc b) c m y.reply y.machine) (sym (run_halts plain_step v b c m k e)) (whole_halts j b c m k e)
      by_outcome (completes l) e ih =
          subst (λ (y : Run.Ran). followed j (suc b) c m y.reply y.machine) (sym (run_completes plain_step v b c m l e))
          (followed_more j b c m l e (run_by plain_step b (suc c) l).reply (run_by plain_step b (suc c) l).machine (ih l))
