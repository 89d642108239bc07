-- A run of the model is 03's. Assumes nothing.
use mathlib.Core.Path.{◌≡◌, refl, ◌∙◌, ap}
use mathlib.Core.Bool.{cond}
use Prim.Native.Nat.{ℕ, zero, suc}
use lib.Dec.{eqb, eqb-suc-zero}
use Rattle.model.specs.Registers.{no_delivery, Machine}
use Rattle.model.specs.Questions.{start_questions}
use Rattle.model.specs.Program.{Outcome, faults, completes, halts}
use Rattle.model.specs.Step.{step}
use Rattle.model.specs.Run.{Ran, refused, ran, unless_refused, run_on, run_from, run}
use Rattle.model.specs.Answers.{numbers, reply_numbers}
use Rattle.model.proofs.DeliveredLaws.{off_step}
use Rattle.reference.specs.Machine as Machine03
use Rattle.reference.specs.Step as Step03
use Rattle.reference.specs.Run as Run03
use Rattle.reference.specs.View as View
use Rattle.reference.specs.Equal.{RunEqual}
use Rattle.reference.proofs.Start.{views_cover, start_equal}
use Rattle.reference.proofs.Steps.{step_equal}
use Rattle.reference.proofs.Halts.{halt_equal}

-- replies of both, opened together
unfoldable replies_opened : Unit {0}
unfolding numbers reply_numbers ran Run03.reply_of Run03.ran View.outcome View.is_halt Step03.fault
replies_opened = tt

run_on_view : (c : ℕ) (m : Machine) (x : Outcome) (f : Machine → Ran) (g : Step03.Machine → Run03.Ran) →
    ((k : Machine) → View.ran (f k) ≡ g (View.machine k)) →
    View.ran (run_on c m x f) ≡ Run03.run_on c (View.is_halt x) (View.machine m) (View.outcome x) g
unfolding replies_opened run_on Run03.run_on
run_on_view c m (faults n t) f g h = refl
run_on_view c m (completes k) f g h = h k
run_on_view c m (halts k) f g h = refl

run_from_view : (n c : ℕ) (m : Machine) → View.ran (run_from no_delivery n c m) ≡ Run03.run_from n c (View.machine m)
unfolding replies_opened run_from Run03.run_from
run_from_view zero c m = refl
run_from_view (suc n) c m =
    let g : Step03.Machine → Run03.Ran = λ k. Run03.run_from n (suc c) k in
    ap (λ x. View.ran (run_on c m x (λ k. run_from no_delivery n (suc c) k))) (off_step no_delivery m refl)
    ∙ run_on_view c m (step m) (λ k. run_from no_delivery n (suc c) k) g (λ k. run_from_view n (suc c) k)
    ∙ ap (λ h. Run03.run_on c h (View.machine m) (View.outcome (step m)) g) (halt_equal m)
    ∙ ap (λ x. Run03.run_on c (Step03.is_halt (View.machine m)) (View.machine m) x g) (step_equal m)

-- 1 to 4 refuse, or the run goes ahead
unless_refused_view : (k b : ℕ) (m : Machine) →
    View.ran (unless_refused k (λ n. ran (refused n) m) (run_from no_delivery b 0 m))
    ≡ cond (eqb k 0) (Run03.run_from b 0 (View.machine m)) (Run03.ran (Run03.reply_of 0 k 0 Machine03.no_place) (View.machine m))
unfolding replies_opened unless_refused
unless_refused_view zero b m = run_from_view b 0 m
unless_refused_view (suc k) b m = rw (eqb-suc-zero k) refl

pub run_equal : RunEqual
unfolding run Run03.run
run_equal b m = rw (← (start_equal m)) (unless_refused_view (start_questions no_delivery m) b m)

-- a run of 03, of any machine, as one of the model
pub run_back : (m : Step03.Machine) (b : ℕ) → View.ran (run no_delivery b (View.model_machine m)) ≡ Run03.run b m
run_back m b = run_equal b (View.model_machine m) ∙ ap (λ (k : Step03.Machine). Run03.run b k) (views_cover m)
