-- A run over lent words is what 03's contract says. Assumes nothing.
use mathlib.Core.Path.{◌≡◌, refl, ◌∙◌, ap}
use mathlib.Core.Bool.{Bool, true, false}
use mathlib.Core.List.{List, [], ◌∷◌, ◌++◌, map}
use Prim.Native.Nat.{ℕ, zero, suc, ◌≤◌}
use native.Mathlib.Omega.{arith}
use lib.Dec.{eqb}
use lib.ListN.{length, get_or, length-append, get_or-eq_default}
use borrow.Author.Tests.{le-leb, eqb-true, eqb-false, eq-eqb, ne_eqb}
use Rattle.model.specs.Words.{Pointer}
use Rattle.model.specs.Registers.{Registers, no_delivery, machine}
use Rattle.model.specs.Questions.{ask, memory_fits}
use Rattle.model.specs.Run.{refused, unless_refused, run}
use Rattle.model.specs.Answers.{numbers, reply_numbers}
use Rattle.model.specs.Lent.{pointer_from, pointers_from, registers_from, delivery_from, pointer_words, pointers_words, delivery_words, registers_words, lent_ran, lent_questions, lent_run}
use Rattle.reference.specs.Machine as Machine03
use Rattle.reference.specs.Run as Run03
use Rattle.reference.specs.Entry as Entry03
use Rattle.reference.specs.View as View
use Rattle.reference.specs.Equal.{LentEqual}
use Rattle.reference.proofs.Runs.{run_equal}

-- THE WORDS OF A RECORD: past its end 03 reads 0, and so three zeros more change nothing
zeros_after : (ws : List ℕ) (i : ℕ) → get_or (View.lent ws) i 0 ≡ get_or ws i 0
zeros_after [] zero = refl
zeros_after [] (suc zero) = refl
zeros_after [] (suc (suc zero)) = refl
zeros_after [] (suc (suc (suc i))) = refl
zeros_after (w ∷ ws) zero = refl
zeros_after (w ∷ ws) (suc i) = zeros_after ws i

record_view : (ws : List ℕ) → View.regs (registers_from (View.lent ws)) ≡ Entry03.regs_of ws
unfolding pointer_from pointers_from registers_from Entry03.place_of Entry03.places_of Entry03.regs_of
record_view ws = simp (zeros_after ws)

delivery_view : (ws : List ℕ) → length ws ≡ 30 → delivery_from (View.lent ws) ≡ no_delivery
unfolding delivery_from
delivery_view ws e =
    let past : (i : ℕ) → 30 ≤ i → get_or (View.lent ws) i 0 ≡ 0 = λ i h. zeros_after ws i ∙ get_or-eq_default ws 0 (omega arith) in
    rw (past 30 (omega arith), past 31 (omega arith), past 32 (omega arith)) refl

pointers_words_view : (ps : List Pointer) → pointers_words ps ≡ Entry03.all_place_words (map View.place ps)
unfolding pointer_words pointers_words Entry03.place_words Entry03.all_place_words
pointers_words_view [] = refl
pointers_words_view (p ∷ ps) = ap (λ (ws : List ℕ). pointer_words p ++ ws) (pointers_words_view ps)

words_view : (r : Registers) → registers_words r no_delivery ≡ View.lent (Entry03.regs_words (View.regs r))
unfolding pointer_words delivery_words registers_words Entry03.place_words Entry03.regs_words
words_view r =
    ap (λ (ws : List ℕ). (r.a ∷ r.dbr.address ∷ r.dbr.length ∷ []) ++ pointer_words r.ipr ++ (ws ++ (0 ∷ 0 ∷ 0 ∷ []))) (pointers_words_view r.prs)

-- THE CALL
lent_short : (b : ℕ) (ws m : List ℕ) → length m ≤ 16777216 → (length ws ≡ 30 → ⊥) →
    lent_run b (View.lent ws) m ≡ record { reply = refused 2; record_words = View.lent ws; memory = m }
unfolding ask memory_fits lent_questions lent_run unless_refused
lent_short b ws m fits short =
    let long = length-append ws (0 ∷ 0 ∷ 0 ∷ []) in
    rw (le-leb (length m) 16777216 fits, ne_eqb (length (View.lent ws)) 33 (λ e. short (omega arith))) refl

lent_right : (b : ℕ) (ws m : List ℕ) → length m ≤ 16777216 → length ws ≡ 30 →
    lent_run b (View.lent ws) m ≡ lent_ran no_delivery (run no_delivery b (machine (registers_from (View.lent ws)) m))
unfolding ask memory_fits lent_questions lent_run unless_refused
lent_right b ws m fits right =
    let long = length-append ws (0 ∷ 0 ∷ 0 ∷ []) in
    rw (le-leb (length m) 16777216 fits, eq-eqb (length (View.lent ws)) 33 (omega arith), delivery_view ws right) refl

-- what 03's run over the words leaves
run_of_words : (b : ℕ) (ws m : List ℕ) →
    View.ran (run no_delivery b (machine (registers_from (View.lent ws)) m)) ≡ Run03.run b (record { regs = Entry03.regs_of ws; mem = m })
unfolding machine
run_of_words b ws m =
    run_equal b (machine (registers_from (View.lent ws)) m)
    ∙ ap (λ (r : Machine03.Regs). Run03.run b (record { regs = r; mem = m })) (record_view ws)

pub lent_equal : LentEqual
unfolding numbers reply_numbers lent_ran Entry03.tells
lent_equal b ws m fits = by_test (eqb (length ws) 30) refl
  where
    by_test : (t : Bool) → eqb (length ws) 30 ≡ t → let x = lent_run b (View.lent ws) m in
        (ws_now : List ℕ) × (x.record_words ≡ View.lent ws_now) × Entry03.RunSays b ws m (View.answer x.reply) ws_now x.memory
    by_test true e =
        let right = eqb-true (length ws) 30 e in
        let r = (run no_delivery b (machine (registers_from (View.lent ws)) m)).machine.registers in
        rw (lent_right b ws m fits right) (
          Entry03.regs_words (View.regs r),
          words_view r,
          record {
            short = λ short. absurd (short right);
            right = λ _. rw (← (run_of_words b ws m)) ((refl, refl, refl, refl, refl, refl), refl, refl);
          },
        )
    by_test false e =
        let short = eqb-false (length ws) 30 e in
        rw (lent_short b ws m fits short) (ws, refl, record { short = λ _. (refl, refl, refl, refl, refl); right = λ right. absurd (short right) })
