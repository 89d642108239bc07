-- The model's runs and stretches are Lockstep's, with faults, halts and refusals. Assumes nothing.
use mathlib.Core.Path.{◌≡◌, refl, ◌∙◌, ap}
use mathlib.Core.Bool.{Bool, true, false, not, cond}
use mathlib.Core.List.{◌∷◌}
use Prim.Native.Nat.{ℕ, zero, suc, ◌+◌}
use native.Mathlib.Omega.{arith}
use lib.Dec.{ltb}
use Rattle.model.specs.Words.{Pointer}
use Rattle.model.specs.Registers.{Delivery, Machine}
use Rattle.model.specs.Questions.{start_questions}
use Rattle.model.specs.Program.{Outcome, faults, completes, halts}
use Rattle.model.specs.Step.{step, pointer_words}
use Rattle.model.specs.Run as Model
use Rattle.model.specs.Deliver.{delivers, saved, deliver, step_with, is_delivered}
use Rattle.model.specs.Run.{Reply, ran, unless_refused, run, after, Traced, traced, trace_on, trace_from, trace, stretch_from}
use Rattle.model.proofs.RunLaws.{run_goes, run_refused, trace_goes, trace_refused}
use Rattle.secrecy.proofs.Lockstep.{Next, stops, goes_on, ends, End, spent, halted, fault, Ran, run_on, run_from, notes_on, notes_from, stretch_on, stretch}

-- THE MODEL'S RUNS ARE LOCKSTEP'S
pub record Fault : Type 0 where
  pub number : ℕ
  pub pointer : Pointer

unfoldable pub next_of : Outcome → Next Machine Fault
next_of (faults n t) = stops (record { number = n; pointer = t })
next_of (completes m) = goes_on m
next_of (halts m) = ends m

unfoldable pub next : Delivery → Machine → Next Machine Fault
next w m = next_of (step_with w m)

unfoldable pub reply_of : (count : ℕ) → End Fault → Reply
reply_of c spent = Reply.spent c
reply_of c halted = Reply.halted c
reply_of c (fault f) = Reply.fault f.number c f.pointer

unfoldable pub ran_of : Ran Machine Fault → Model.Ran
ran_of x = Model.ran (reply_of x.count x.end) x.state

pub run_is_lockstep : (w : Delivery) (left count : ℕ) (m : Machine) → Model.run_from w left count m ≡ ran_of (run_from (next w) left count m)
unfolding Model.run_from Model.run_on run_from run_on ran_of reply_of next next_of
run_is_lockstep w zero c m = refl
run_is_lockstep w (suc n) c m = by_outcome (step_with w m) (λ k. run_is_lockstep w n (suc c) k)
  where
    by_outcome : (o : Outcome) → ((k : Machine) → Model.run_from w n (suc c) k ≡ ran_of (run_from (next w) n (suc c) k)) →
        Model.run_on c m o (λ k. Model.run_from w n (suc c) k) ≡ ran_of (run_on (next w) c m (next_of o) (λ k. run_from (next w) n (suc c) k))
    by_outcome (faults n t) ih = refl
    by_outcome (completes k) ih = ih k
    by_outcome (halts k) ih = refl

unfoldable pub note : (before after : Machine) → Traced
note m k = traced k (pointer_words m)

pub trace_is_lockstep : (w : Delivery) (left : ℕ) (m : Machine) → trace_from w left m ≡ notes_from (next w) note left m
unfolding trace_from trace_on notes_from notes_on note next next_of
trace_is_lockstep w zero m = refl
trace_is_lockstep w (suc n) m = by_outcome (step_with w m) (λ k. trace_is_lockstep w n k)
  where
    by_outcome : (o : Outcome) → ((k : Machine) → trace_from w n k ≡ notes_from (next w) note n k) →
        trace_on (pointer_words m) o (λ k. trace_from w n k) ≡ notes_on (next w) note m (next_of o) (λ k. notes_from (next w) note n k)
    by_outcome (faults n t) ih = refl
    by_outcome (completes k) ih = ap (λ ts. note m k ∷ ts) (ih k)
    by_outcome (halts k) ih = refl

-- inside the stretch: in ring n or above
unfoldable pub above : (ring : ℕ) → Machine → Bool
above n m = not (ltb m.registers.ipr.ring n)

-- a step that delivers a fault leaves it
unfoldable pub leaves : Delivery → Machine → Bool
leaves w m = is_delivered w m (step m)

pub stretch_is_lockstep : (w : Delivery) (n budget : ℕ) (m : Machine) → stretch_from w n budget m ≡ stretch (next w) (above n) (leaves w) budget m
unfolding stretch_from Model.stretch_on stretch stretch_on next next_of above leaves is_delivered step_with deliver
stretch_is_lockstep w n zero m = refl
stretch_is_lockstep w n (suc b) m = by_outcome (step m) (λ k. stretch_is_lockstep w n b k)
  where
    ends_at : (below : Bool) (x y : ℕ) → x ≡ y → suc (cond below 0 x) ≡ cond (not below) (suc y) 1
    ends_at true x y e = refl
    ends_at false x y e = ap suc e

    stops_at : (delivered : Bool) (x : Outcome) (c : ℕ) (t : Pointer) →
        cond delivered 0 (suc b) ≡ cond delivered 0 (stretch_on (next w) (above n) (leaves w) b (next_of (cond delivered x (faults c t))) (λ k. stretch (next w) (above n) (leaves w) b k))
    stops_at true x c t = refl
    stops_at false x c t = refl

    by_outcome : (o : Outcome) → ((k : Machine) → stretch_from w n b k ≡ stretch (next w) (above n) (leaves w) b k) →
        cond (is_delivered w m o) 0 (Model.stretch_on n b o (λ k. stretch_from w n b k))
        ≡ cond (is_delivered w m o) 0 (stretch_on (next w) (above n) (leaves w) b (next_of (deliver w m o)) (λ k. stretch (next w) (above n) (leaves w) b k))
    by_outcome (faults c t) ih = stops_at (delivers w m) (completes (saved w c t m)) c t
    by_outcome (completes k) ih = ends_at (ltb k.registers.ipr.ring n) _ _ (ih k)
    by_outcome (halts k) ih = ends_at (ltb k.registers.ipr.ring n) b b refl

-- RUNS THAT GO AHEAD, and runs that are refused
pub run_goes_ahead : (w : Delivery) (b : ℕ) (m : Machine) → start_questions w m ≡ 0 → run w b m ≡ ran_of (run_from (next w) b 0 m)
run_goes_ahead w b m e = run_goes w b m e ∙ run_is_lockstep w b 0 m

pub after_goes_ahead : (w : Delivery) (m : Machine) → start_questions w m ≡ 0 → (j : ℕ) → after w j m ≡ (run_from (next w) j 0 m).state
unfolding after ran_of ran
after_goes_ahead w m e j = ap (λ x. x.machine) (run_goes_ahead w j m e)

pub trace_goes_ahead : (w : Delivery) (b : ℕ) (m : Machine) → start_questions w m ≡ 0 → trace w b m ≡ notes_from (next w) note b m
trace_goes_ahead w b m e = trace_goes w b m e ∙ trace_is_lockstep w b m

pub stretch_goes_ahead : (w : Delivery) (n b : ℕ) (m : Machine) → start_questions w m ≡ 0 → Model.stretch w n b m ≡ stretch (next w) (above n) (leaves w) b m
unfolding Model.stretch unless_refused
stretch_goes_ahead w n b m e = rw e (stretch_is_lockstep w n b m)

pub after_refused : (w : Delivery) (c : ℕ) (m : Machine) → start_questions w m ≡ suc c → (j : ℕ) → after w j m ≡ m
unfolding after ran
after_refused w c m e j = ap (λ x. x.machine) (run_refused w j c m e)

pub stretch_refused : (w : Delivery) (n b c : ℕ) (m : Machine) → start_questions w m ≡ suc c → Model.stretch w n b m ≡ b
unfolding Model.stretch unless_refused
stretch_refused w n b c m e = rw e
