-- 1 to 4 asked by a run of no steps, which leaves the machine as it is. Assumes nothing.
use mathlib.Core.Path.{◌≡◌, refl, sym, ◌∙◌, ap, ap₂}
use mathlib.Core.Bool.{Bool, true, false, not}
use mathlib.Core.List.{List}
use Prim.Native.Nat.{ℕ, zero, suc, ◌<◌, ◌≤◌}
use native.Mathlib.Omega.{arith}
use lib.ListN.{length}
use borrow.Author.Tests.{not-true, not-false}
use Rattle.std.specs.Prelude.{Result, Ok, Err, IsOk}
use Rattle.model.specs.Registers as Model
use Rattle.model.specs.Registers.{Delivery, no_delivery, Machine}
use Rattle.model.specs.Answers.{Numbers, numbers, reply_numbers}
use Rattle.model.specs.Questions.{ask, memory_fits, delivery_in_range, start_questions}
use Rattle.model.specs.Run.{ran}
use Rattle.model.proofs.DeliveredLaws.{same_start}
use Rattle.questions.specs.Numbers.{Starts}
use Rattle.questions.specs.declared.start.StartError.{StartError}
use Rattle.questions.specs.declared.start.UnknownNumber.{UnknownNumber}
use Rattle.state.specs.View.{as_machine}
use Rattle.state.specs.declared.Core.{Core}
use Rattle.host.specs.Record.{machine_of, delivery_of, Converted}
use Rattle.host.specs.declared.record.Registers.{Registers}
use Rattle.host.proofs.RecordLaws.{delivery_answer}
use Rattle.run.specs.Run.{run_by}
use Rattle.answers.specs.declared.Answered.{Answered}
use Rattle.plain.specs.Plain.{PlainAs}

-- the same machine, with the core that it was given
same_core : (c d : Core) (prs memory prs_now memory_now : List ℕ) → as_machine d prs_now memory_now ≡ as_machine c prs memory → as_machine c prs_now memory_now ≡ as_machine c prs memory
same_core c d prs memory prs_now memory_now e =
    ap₂ (λ ps m. record { registers = record { a = c.a; dbr = (as_machine c prs memory).registers.dbr; ipr = (as_machine c prs memory).registers.ipr; prs = ps }; memory = m })
    (ap (λ (k : Machine). k.registers.prs) e) (ap (λ (k : Machine). k.memory) e)

ask_small : (b : Bool) (n x : ℕ) → n ≤ 4 → x ≤ 4 → ask b n x ≤ 4
unfolding ask
ask_small true n x h k = k
ask_small false n x h k = h

start_small : (v : Delivery) (m : Machine) → start_questions v m ≤ 4
unfolding start_questions
start_small v m = ask_small _ 1 _ (omega arith) (ask_small _ 2 _ (omega arith) (ask_small _ 3 _ (omega arith) (ask_small _ 4 _ (omega arith) (omega arith))))

-- a number of 1 to 4 has its question
pub numbered : (n : ℕ) (r : Result StartError UnknownNumber) → Starts n r → (0 < n) × (n ≤ 4) → IsOk r
numbered n (Ok e) s h = refl
numbered n (Err u) s h = absurd (omega (arith, s h.0, h.1))

module _ (v : Delivery) (c : Core) (prs memory : List ℕ) (b : Bool) (e : b ≡ delivery_in_range v) where
  abbrev given : Machine
  given = as_machine c prs memory

  -- the switch and its segments have a no
  pub ask_delivery : not b ≡ true → (n : ℕ) → n ≡ ask (memory_fits (length memory)) 1 2 → (n ≡ start_questions v given) × (as_machine c prs memory ≡ given)
  ask_delivery h n f = (f ∙ sym (delivery_answer v given (sym e ∙ not-true b h)), refl)

  module _ (h : not b ≡ false) (single : Bool) (trace : List ℕ) (x : Answered) (prs_now memory_now trace_now : List ℕ)
      (w : PlainAs single 0 c prs memory trace x prs_now memory_now trace_now) where
    start : start_questions v given ≡ start_questions no_delivery given
    start = same_start v no_delivery (sym e ∙ not-false b h) (unfold delivery_in_range in refl) given

    -- the answer's number is that of the first no, whichever kind it has
    asked : (n : ℕ) → start_questions no_delivery given ≡ n → (x.kind ≡ 0 → x.number ≡ n) × ((x.kind ≡ 0 → ⊥) → n ≡ 0) × (as_machine c prs_now memory_now ≡ given)
    unfolding reply_numbers numbers ran run_by
    asked zero f =
        let r = w.runs f in
        let k = ap (λ (q : Numbers). q.kind) r.numbers_same in
        (λ z. absurd (omega (arith, z, k)), λ _. refl, same_core c x.core prs memory prs_now memory_now r.machine_same)
    asked (suc n) f =
        let r = w.refuses n f in
        (λ _. ap (λ (q : Numbers). q.number) r.numbers_same, λ z. absurd (z (ap (λ (q : Numbers). q.kind) r.numbers_same)), ap₂ (λ p m. as_machine c p m) r.prs_same r.memory_same)

    -- a refusal has the number of one of 1 to 4
    pub ask_numbered : x.kind ≡ 0 → (0 < x.number) × (x.number ≤ 4)
    unfolding reply_numbers numbers ran run_by
    ask_numbered z = by_answer _ refl
      where
        by_answer : (n : ℕ) → start_questions no_delivery given ≡ n → (0 < x.number) × (x.number ≤ 4)
        by_answer zero f = let k = ap (λ (q : Numbers). q.kind) (w.runs f).numbers_same in absurd (omega (arith, z, k))
        by_answer (suc n) f = let e = (asked _ f).0 (z) in (omega (arith, e), omega (arith, e, f, start_small no_delivery given))

    pub ask_stays : as_machine c prs_now memory_now ≡ given
    ask_stays = (asked _ refl).2

    pub ask_refused : x.kind ≡ 0 → x.number ≡ start_questions v given
    ask_refused z = (asked _ refl).0 (z) ∙ sym start

    pub ask_passed : (x.kind ≡ 0 → ⊥) → 0 ≡ start_questions v given
    ask_passed z = sym (start ∙ (asked _ refl).1 z)

-- A HOST'S RECORD
module _ (r : Registers) (c : Core) (e : Converted r c) (memory : List ℕ) where
  given_same : as_machine c r.prs memory ≡ machine_of r memory
  given_same = ap (λ (q : Model.Registers). record { registers = q; memory = memory }) e.same

  pub prepared_asked : (n : ℕ) → n ≡ start_questions (delivery_of r) (as_machine c r.prs memory) → n ≡ start_questions (delivery_of r) (machine_of r memory)
  prepared_asked n f = f ∙ ap (start_questions (delivery_of r)) given_same

  pub prepared_same : (prs_now memory_now : List ℕ) → as_machine c prs_now memory_now ≡ as_machine c r.prs memory → as_machine c prs_now memory_now ≡ machine_of r memory
  prepared_same prs_now memory_now g = g ∙ given_same
