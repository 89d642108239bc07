-- A run and a single step by one call. Assumes nothing.
use mathlib.Core.Path.{◌≡◌, sym, ◌∙◌, ap}
use mathlib.Core.Bool.{true, false}
use mathlib.Core.List.{List}
use Prim.Native.Nat.{ℕ}
use Rattle.model.specs.Run.{after}
use Rattle.model.proofs.TickLaws.{single_count_of_run}
use Rattle.model.proofs.CountLaws.{single_step_runs}
use Rattle.host.specs.declared.record.Registers.{Registers}
use Rattle.entry.specs.Call.{CallSays}
use Rattle.entry.specs.declared.Answer.{Answer}
use Rattle.kuzhlemor.specs.Entry.{RunSays, StepSays}

module _ (h : Registers) (ys : List ℕ) (r : Answer) (h' : Registers) (zs : List ℕ) where
  pub as_run : (n : ℕ) → CallSays false n h ys r h' zs → RunSays n h ys r h' zs
  as_run n s = record { answer_same = s.answer_same; registers_same = s.registers_same; delivery_same = s.delivery_same; memory_same = s.memory_same; pointers_same = s.pointers_same }

  pub as_step : CallSays true 1 h ys r h' zs → StepSays h ys r h' zs
  unfolding after
  as_step s =
      record {
        answer_same = s.answer_same ∙ sym (single_step_runs _ _).1;
        registers_same = s.registers_same ∙ sym (ap (λ k. k.registers) (single_step_runs _ _).0);
        delivery_same = s.delivery_same;
        memory_same = s.memory_same ∙ sym (ap (λ k. k.memory) (single_step_runs _ _).0);
        pointers_same = s.pointers_same ∙ sym (single_count_of_run _ _);
      }
