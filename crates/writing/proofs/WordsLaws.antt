-- The words' records put one after another: those still to be put are put after those that are there. Assumes nothing.
use mathlib.Core.Path.{◌≡◌, sym, ap, ◌∙◌}
use mathlib.Core.Bool.{cond}
use mathlib.Core.List.{List, [], ◌++◌}
use Prim.Native.Nat.{ℕ, ◌+◌, ◌*◌, ◌-◌, ◌≤◌, ◌<◌}
use native.Mathlib.Numerals.{add-one}
use native.Mathlib.Omega.{arith}
use lib.Dec.{eqb}
use lib.ListN.{length, get_or, drop, length-append, length-drop, drop_of_length-le}
use lib.Seq.{drop-cons}
use Rattle.model.specs.Write.{WD_record, word_records}
use Rattle.formats.proofs.WriteLaws.{length_word_records}
use Rattle.text.specs.Text.{placed, Put}
use Rattle.text.proofs.TextLaws.{placed_none, rest_to_put}

-- the record of a word, and those from a word on
abbrev pub record_of : (k : ℕ) → (memory : List ℕ) → List ℕ
record_of k m = cond (eqb (get_or m k 0) 0) [] (WD_record k (get_or m k 0))

abbrev pub records_from : (k : ℕ) → (memory : List ℕ) → List ℕ
records_from k m = word_records k (drop k m)

module _ (k : ℕ) (m : List ℕ) where
  one_record_less : k < length m → records_from k m ≡ record_of k m ++ records_from (k + 1) m
  unfolding word_records
  one_record_less l = ap (word_records k) (drop-cons m k 0 l) ∙ ap (λ n. record_of k m ++ records_from n m) (sym (add-one k))

  no_record_left : length m ≤ k → records_from k m ≡ []
  unfolding word_records
  no_record_left l = ap (word_records k) (drop_of_length-le m {i = k} l)

  module _ (b : ℕ) (t z : List ℕ) (e : placed b (records_from k m) t ≡ z) where
    pub no_word_to_put : length m ≤ k → t ≡ z
    no_word_to_put l = sym (placed_none b t) ∙ ap (λ bs. placed b bs t) (sym (no_record_left l)) ∙ e

    pub words_to_put : (c : ℕ) (u : List ℕ) → k < length m → b + 14 * (length m - k) ≤ length t → Put 14 b (record_of k m) t u c
        → placed c (records_from (k + 1) m) u ≡ z
    words_to_put c u l h x =
        let parts = one_record_less l in
        rest_to_put 14 b c (record_of k m) (records_from (k + 1) m) t u z x
        (omega (arith, ap length parts, length_word_records k (drop k m), length-drop k m)) (ap (λ bs. placed b bs t) (sym parts) ∙ e)

  module _ (b end : ℕ) (e : b + length (records_from k m) ≡ end) where
    pub after_every_word : length m ≤ k → b ≡ end
    after_every_word l = omega (arith, ap length (no_record_left l))

    pub words_after : (c : ℕ) → k < length m → c ≡ b + length (record_of k m) → c + length (records_from (k + 1) m) ≡ end
    words_after c l s = omega (arith, ap length (one_record_less l), length-append (record_of k m) (records_from (k + 1) m))

pub ruleset words_laws = (no_word_to_put, after_every_word, words_after)
