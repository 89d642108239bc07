-- Two of 03's promises, over 03's own runs. Assumes nothing.
use mathlib.Core.Path.{◌≡◌, refl, sym, ◌∙◌, ap, fun_ext, subst}
use mathlib.Core.List.{List, [], ◌∷◌}
use Prim.Native.Nat.{ℕ, suc, ◌≤◌}
use native.Mathlib.Omega.{arith}
use lib.ListN.{length}
use Rattle.model.specs.Registers.{no_delivery, Machine}
use Rattle.model.specs.Questions.{start_questions}
use Rattle.model.specs.Run.{Ran, ran, run}
use Rattle.model.specs.Answers.{numbers, reply_numbers}
use Rattle.model.specs.Ends.{Ends, by_refusal, by_fault, by_halt, by_budget}
use Rattle.model.proofs.EndsLaws.{run_ends, ends_once}
use Rattle.model.proofs.CountLaws as CountLaws
use Rattle.reference.specs.Machine as Machine03
use Rattle.reference.specs.Step as Step03
use Rattle.reference.specs.Run as Run03
use Rattle.reference.specs.Promise as Promise03
use Rattle.reference.specs.View as View
use Rattle.reference.proofs.Start.{views_cover, start_equal}
use Rattle.reference.proofs.Runs.{run_back}

start_back : (m : Step03.Machine) → start_questions no_delivery (View.model_machine m) ≡ Machine03.start_refusal m.regs m.mem
start_back m =
    start_equal (View.model_machine m) ∙ ap (λ (k : Step03.Machine). Machine03.start_refusal k.regs k.mem) (views_cover m)

no_words : (m : List ℕ) → length m ≡ 0 → m ≡ []
no_words [] e = refl
no_words (x ∷ xs) e = absurd (let z : suc (length xs) ≡ 0 = e in omega arith)

-- what a reply's kind says, by why the run ended
record Kinds (b : ℕ) (m : Machine) (x : Ran) : Type 0 where
  if_refused :
      (reply_numbers x.reply).kind ≡ 0 →
      (x.machine ≡ m) × ((reply_numbers x.reply).number ≡ start_questions no_delivery m) × ((reply_numbers x.reply).count ≡ 0) × (start_questions no_delivery m ≡ 0 → ⊥)
  if_spent : (reply_numbers x.reply).kind ≡ 1 → (reply_numbers x.reply).count ≡ b
  if_fault : (reply_numbers x.reply).kind ≡ 3 → (run no_delivery (reply_numbers x.reply).count m).machine ≡ x.machine

kinds : (b : ℕ) (m : Machine) {x : Ran} → Ends no_delivery b m x → Kinds b m x
unfolding ran numbers reply_numbers
kinds b m (by_refusal e) =
    record { if_refused = λ z. (refl, sym e, refl, λ s. omega arith); if_spent = λ z. absurd (omega arith); if_fault = λ z. absurd (omega arith) }
kinds b m (by_fault {count = c} e s h f) =
    record {
      if_refused = λ z. absurd (omega arith);
      if_spent = λ z. absurd (omega arith);
      if_fault = λ z. ap (λ (x : Ran). x.machine) (sym (ends_once no_delivery c m _ (by_budget e s)));
    }
kinds b m (by_halt e s h f) =
    record { if_refused = λ z. absurd (omega arith); if_spent = λ z. absurd (omega arith); if_fault = λ z. absurd (omega arith) }
kinds b m (by_budget e s) =
    record { if_refused = λ z. absurd (omega arith); if_spent = λ z. refl; if_fault = λ z. absurd (omega arith) }

-- the two promises, of whatever answers for each budget
unfoldable Counts : (b : ℕ) → Step03.Machine → (ℕ → Run03.Ran) → Type 0
Counts b m f =
    ((f b).reply.count ≤ b) × ((f b).reply.kind ≡ 1 → (f b).reply.count ≡ b) × ((f b).reply.kind ≡ 0 → (f b).machine ≡ m)
    × ((f b).reply.kind ≡ 3 → (f (f b).reply.count).machine ≡ (f b).machine) × ((f b).machine.mem ≡ [] → m.mem ≡ [])
    × (length (f b).machine.mem ≡ length m.mem)

unfoldable Early : (b : ℕ) → Step03.Machine → (ℕ → Run03.Ran) → Type 0
Early b m f =
    ((f b).reply.kind ≡ 0 → ((f b).reply.number ≡ Machine03.start_refusal m.regs m.mem) × ((f b).reply.count ≡ 0))
    × (Machine03.start_refusal m.regs m.mem ≡ 0 → (f b).reply.kind ≡ 0 → ⊥)

pub run_counts : Promise03.RunCounts
unfolding Promise03.RunCounts Counts
run_counts b m =
    let k = View.model_machine m in
    let y = kinds b k (run_ends no_delivery b k) in
    let c = CountLaws.run_counts no_delivery b k in
    subst (Counts b m) (fun_ext (run_back m)) (
      c.0,
      y.if_spent,
      λ z. ap View.machine (y.if_refused z).0 ∙ views_cover m,
      λ z. ap View.machine (y.if_fault z),
      λ z. no_words m.mem (sym c.2 ∙ ap length z),
      c.2,
    )

pub refused_early : Promise03.RefusedEarly
unfolding Promise03.RefusedEarly Early
refused_early b m =
    let k = View.model_machine m in
    let y = kinds b k (run_ends no_delivery b k) in
    subst (Early b m) (fun_ext (run_back m)) (
      λ z. ((y.if_refused z).1 ∙ start_back m, (y.if_refused z).2),
      λ s z. (y.if_refused z).3 (start_back m ∙ s),
    )
