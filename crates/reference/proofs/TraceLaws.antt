-- Each entry of a trace is IPR after its step with how many pointer words the step reads, and the run to there counts just those steps. Assumes nothing.
use mathlib.Core.Path.{◌≡◌, refl, ap}
use mathlib.Core.List.{List, [], ◌∷◌}
use Prim.Native.Nat.{ℕ, zero, suc}
use native.Mathlib.Omega.{arith}
use Rattle.model.specs.Registers.{Delivery, Machine}
use Rattle.model.specs.Questions.{start_questions}
use Rattle.model.specs.Step.{pointer_words}
use Rattle.model.specs.Run.{Ran, ran, run, Traced, traced, trace_from, trace}
use Rattle.model.specs.Answers.{numbers, reply_numbers}
use Rattle.model.specs.Ends.{Steps, no_step, by_halt, by_budget}
use Rattle.model.proofs.RunLaws.{Next, next_faults, next_halts, next_completes, next, trace_faults, trace_halts, trace_completes, trace_goes, trace_refused}
use Rattle.model.proofs.EndsLaws.{steps_then, ends_once}

-- from step c + 1 of the run from m on
abbrev pub Trails : Delivery → Machine → (c : ℕ) → List Traced → Type 0
Trails v m c [] = Unit {0}
Trails v m c (x ∷ xs) =
    (x.ipr ≡ (run v (suc c) m).machine.registers.ipr) × (x.pointers ≡ pointer_words (run v c m).machine)
    × (suc c ≡ (reply_numbers (run v (suc c) m).reply).count) × Trails v m (suc c) xs

trails_from : (v : Delivery) (o : Machine) → start_questions v o ≡ 0 → (b c : ℕ) (m : Machine) → Steps v c o m → Trails v o c (trace_from v b m)
unfolding trace_from traced ran numbers reply_numbers
trails_from v o q zero c m s = tt
trails_from v o q (suc b) c m s = by_next (next v m) (λ k t. trails_from v o q b (suc c) k t)
  where
    before : pointer_words m ≡ pointer_words (run v c o).machine
    before = ap (λ (x : Ran). pointer_words x.machine) (ends_once v c o _ (by_budget q s))

    by_next : Next v m → ((k : Machine) → Steps v (suc c) o k → Trails v o (suc c) (trace_from v b k)) → Trails v o c (trace_from v (suc b) m)
    by_next (next_faults n t e) rest = rw (trace_faults v b n t m e) tt
    by_next (next_halts k e) rest =
        let same = ends_once v (suc c) o _ (by_halt q s (omega arith) e) in
        rw (trace_halts v b m k e) (ap (λ (x : Ran). x.machine.registers.ipr) same, before, ap (λ (x : Ran). (reply_numbers x.reply).count) same, tt)
    by_next (next_completes k e) rest =
        let t = steps_then v s e in
        let same = ends_once v (suc c) o _ (by_budget q t) in
        rw (trace_completes v b m k e) (ap (λ (x : Ran). x.machine.registers.ipr) same, before, ap (λ (x : Ran). (reply_numbers x.reply).count) same, rest k t)

pub trace_trails : (v : Delivery) (b : ℕ) (m : Machine) → Trails v m 0 (trace v b m)
trace_trails v b m = by_answer (start_questions v m) refl
  where
    by_answer : (a : ℕ) → start_questions v m ≡ a → Trails v m 0 (trace v b m)
    by_answer zero e = rw (trace_goes v b m e) (trails_from v m e b 0 m no_step)
    by_answer (suc n) e = rw (trace_refused v b n m e) tt
