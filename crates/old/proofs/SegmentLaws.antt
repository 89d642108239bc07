-- A segment judged and converted word by word. Assumes nothing.
use Rattle.std.proofs.Common.{◌≡◌, ◌≢◌, refl, sym, ap, ◌∙◌, List, [], ◌∷◌, ◌++◌, map, ℕ, zero, suc, ◌+◌, ◌≤◌, ◌<◌, arith, add-one, length, get_or, set, take, drop, drop-cons}
use mathlib.Core.List.{append-nil}
use lib.ListN.{drop_of_length-le}
use lib.Seq.{take_all, append_snoc, take-suc-set, drop-set-lt}
use borrow.Author.Tests.{ne_eqb}
use Rattle.model.specs.Old.{Way, form_questions, converted_word, Answer, or_fails, words_answer, convert_words}
use Rattle.formats.proofs.OldLaws.{all_written}
use Rattle.old.specs.declared.word.FormError.{FormError}
use Rattle.old.specs.View.{form_number}

-- THE WORDS STILL TO COME give the answer of all
module _ (y : Way) (i : ℕ) (ws : List ℕ) (z : words_answer y i (drop i ws) ≡ words_answer y 0 ws) where
  word_in_front : (n : ℕ) → i < length ws → n ≡ form_questions y (get_or ws i 0) → words_answer y 0 ws ≡ or_fails n i (words_answer y (i + 1) (drop (i + 1) ws))
  unfolding words_answer
  word_in_front n h q =
      sym z ∙ ap (words_answer y i) (drop-cons ws i 0 h) ∙ ap (λ k. or_fails k i (words_answer y (suc i) (drop (suc i) ws))) (sym q)
      ∙ ap (λ k. or_fails n i (words_answer y k (drop k ws))) (sym (add-one i))

  pub word_fails : (n : ℕ) → i < length ws → n ≡ form_questions y (get_or ws i 0) → (n ≡ 0 → ⊥) → record { number = n; index = i } ≡ words_answer y 0 ws
  unfolding or_fails
  word_fails zero h q d = absurd (d refl)
  word_fails (suc n) h q d = sym (word_in_front (suc n) h q)

  pub word_passes : (n : ℕ) → i < length ws → n ≡ form_questions y (get_or ws i 0) → n ≡ 0 → words_answer y (i + 1) (drop (i + 1) ws) ≡ words_answer y 0 ws
  unfolding or_fails
  word_passes n h q e = sym (word_in_front n h q ∙ ap (λ k. or_fails k i (words_answer y (i + 1) (drop (i + 1) ws))) e)

  pub words_pass : length ws ≤ i → record { number = 0; index = 0 } ≡ words_answer y 0 ws
  unfolding words_answer
  words_pass h = sym (ap (words_answer y i) (drop_of_length-le ws h)) ∙ z

pub form_number_not_0 : (e : FormError) → form_number e ≢ 0
form_number_not_0 FormError.NotOld h = omega arith
form_number_not_0 FormError.NotConvertible h = omega arith

pub ruleset answer_laws = (word_fails, word_passes, words_pass, form_number_not_0)

-- THE WORDS ARE CONVERTED from one on; those before it are already
unfoldable pub converted_on : Way → (from : ℕ) → List ℕ → List ℕ
converted_on y i ws = take i ws ++ map (converted_word y) (drop i ws)

pub none_converted : (y : Way) (ws : List ℕ) → converted_on y 0 ws ≡ map (converted_word y) ws
unfolding converted_on
none_converted y ws = refl

module _ (y : Way) (i : ℕ) (ws xs : List ℕ) (z : converted_on y i ws ≡ xs) where
  pub word_converted : (v : ℕ) → i < length ws → v ≡ converted_word y (get_or ws i 0) → converted_on y (i + 1) (set ws i v) ≡ xs
  unfolding converted_on
  word_converted v h e =
      let f = converted_word y in
      ap (λ k. take k (set ws i v) ++ map f (drop k (set ws i v))) (add-one i)
      ∙ ap (λ l. l ++ map f (drop (suc i) (set ws i v))) (take-suc-set ws i v h)
      ∙ ap (λ l. (take i ws ++ (v ∷ [])) ++ map f l) (drop-set-lt (suc i) ws i v (omega arith))
      ∙ append_snoc (take i ws) v (map f (drop (suc i) ws))
      ∙ ap (λ u. take i ws ++ u ∷ map f (drop (suc i) ws)) e
      ∙ ap (λ l. take i ws ++ map f l) (sym (drop-cons ws i 0 h)) ∙ z

pub all_converted : (y : Way) (i : ℕ) (ws : List ℕ) → length ws ≤ i → converted_on y i ws ≡ ws
unfolding converted_on
all_converted y i ws h = ap (λ l. take i ws ++ map (converted_word y) l) (drop_of_length-le ws h) ∙ append-nil (take i ws) ∙ take_all i ws h

pub ruleset each_laws = (none_converted, word_converted, all_converted)

-- THE CALL
module _ (y : Way) (ws : List ℕ) (x : Answer) (e : x ≡ words_answer y 0 ws) where
  pub refused_answer : x ≡ (convert_words y ws).answer
  unfolding convert_words
  refused_answer = e

  pub nothing_written : (x.number ≡ 0 → ⊥) → ws ≡ (convert_words y ws).words
  unfolding convert_words
  nothing_written d = sym (rw (ne_eqb (words_answer y 0 ws).number 0 (λ z. d (ap (λ a. a.number) e ∙ z))))

  pub each_written : (vs : List ℕ) → x.number ≡ 0 → vs ≡ map (converted_word y) ws → vs ≡ (convert_words y ws).words
  each_written vs d q = q ∙ sym (all_written y ws (sym (ap (λ a. a.number) e) ∙ d))

pub ruleset call_laws = (refused_answer, nothing_written, each_written)
