-- Questions 11 to 15, one law for each answer, from facts as the code's tests give them. Assumes nothing.
use Rattle.std.proofs.Common.{◌≡◌, sym, refl, ◌∙◌, List, ℕ, zero, suc, ◌+◌, ◌≤◌, ◌<◌, length, arith}
use borrow.Author.Tests.{le-ltb, lt-ltb, ltb-true}
use Rattle.model.specs.Words.{descriptor_in, Pointer}
use Rattle.model.specs.Registers.{Dbr}
use Rattle.model.specs.Questions.{ask, then_ask, segment_questions, word_questions, use_questions}
use Rattle.model.proofs.QuestionLaws.{ask_yes, then_ask_yes, segment_within_memory}
use Rattle.questions.specs.declared.fault.Fault.{Fault}
use Rattle.questions.specs.Numbers.{fault_number}
use Rattle.segments.specs.Translation.{descriptor_word, descriptor_answer, word_answer, use_at, Passes}

-- what 14 says of a right descriptor
pub right_fits : (n w : ℕ) → descriptor_answer n w ≡ 0 → (descriptor_in w).address + (descriptor_in w).length ≤ n
unfolding descriptor_answer
right_fits n w e = segment_within_memory n (record { address = 0; length = 1 }) 0 (descriptor_in w) e

-- 11 lets by, so that 12 to 14 are left
pub segment_answer : (n : ℕ) (b : Dbr) (s w : ℕ) → s < b.length → segment_questions n b s (descriptor_in w) ≡ descriptor_answer n w
unfolding segment_questions descriptor_answer ask
segment_answer n b s w h = simp (lt-ltb _ _ h)

pub then_ask_no : (n x : ℕ) → 1 ≤ n → then_ask n x ≡ n
unfolding then_ask
then_ask_no zero x h = absurd (omega arith)
then_ask_no (suc n) x h = refl

-- 11, and then 12 to 15 of the word of memory
module _ (b : Dbr) (m : List ℕ) (t : Pointer) where
  pub law_11 : b.length ≤ t.segment → use_at b m t ≡ 11
  unfolding use_at use_questions segment_questions ask then_ask
  law_11 h = simp (le-ltb _ _ h)

  module _ (w : ℕ) (h : t.segment < b.length) (f : w ≡ descriptor_word b m t.segment) where
    after_11 : use_at b m t ≡ word_answer (length m) w t.word
    unfolding use_at use_questions word_answer
    after_11 = rw (← f, segment_answer (length m) b t.segment w h)

    pub word_refused : (e : Fault) → fault_number e ≡ word_answer (length m) w t.word → use_at b m t ≡ fault_number e
    word_refused e h = after_11 ∙ sym h

    pub word_passes : 0 ≡ word_answer (length m) w t.word → Passes b m t w
    unfolding word_answer word_questions
    word_passes e =
        let y = then_ask_yes _ _ (sym e) in
        record {
          passes = after_11 ∙ sym e;
          same = f;
          right = y.0;
          inside = ltb-true _ _ (ask_yes _ _ _ y.1).0;
          fits = right_fits (length m) w y.0;
        }

  pub law_passes : (w : ℕ) → t.segment < b.length → 0 ≡ descriptor_answer (length m) w → w ≡ descriptor_word b m t.segment →
      (l : ℕ) → l ≡ (descriptor_in w).length → t.word < l → Passes b m t w
  unfolding word_answer word_questions ask then_ask
  law_passes w h e f l el x = word_passes w h f (rw (← e, ← el, lt-ltb _ _ x))
