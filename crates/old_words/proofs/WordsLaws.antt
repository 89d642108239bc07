-- Words read from bytes, and put as bytes, one after another. Assumes nothing.
use mathlib.Core.Path.{◌≡◌, refl, sym, ap, ◌∙◌}
use mathlib.Core.List.{List, [], ◌∷◌, ◌++◌}
use Prim.Native.Nat.{ℕ, zero, suc, ◌+◌, ◌*◌, ◌≤◌, ◌<◌}
use native.Mathlib.Numerals.{add-one}
use native.Mathlib.Nat.{add-zero}
use native.Mathlib.Omega.{arith}
use lib.ListN.{length, get_or, set, take, drop, length-append, length-drop, drop_of_length-le}
use lib.Seq.{take_all, take-suc-set, drop-cons}
use Rattle.model.specs.Image.{number_at}
use Rattle.model.specs.Write.{bytes}
use Rattle.model.specs.Old.{words_at, words_bytes}
use Rattle.formats.proofs.WriteLaws.{length_bytes}
use Rattle.text.specs.Text.{placed, Put}
use Rattle.text.proofs.TextLaws.{placed_none, rest_to_put}

-- READ: the words so far are those of the bytes so far
words_at_more : (n a : ℕ) (bs : List ℕ) → words_at (suc n) a bs ≡ words_at n a bs ++ (number_at (a + 8 * n) 8 bs ∷ [])
unfolding words_at
words_at_more zero a bs = ap (λ k. number_at k 8 bs ∷ []) (sym (add-zero a))
words_at_more (suc n) a bs =
    let e : a + 8 + 8 * n ≡ a + 8 * suc n = omega arith in
    ap (λ ws. number_at a 8 bs ∷ ws) (words_at_more n (a + 8) bs ∙ ap (λ k. words_at n (a + 8) bs ++ (number_at k 8 bs ∷ [])) e)

pub length_words_at : (n a : ℕ) (bs : List ℕ) → length (words_at n a bs) ≡ n
unfolding words_at
length_words_at zero a bs = refl
length_words_at (suc n) a bs = ap suc (length_words_at n (a + 8) bs)

unfoldable pub ReadSoFar : (count : ℕ) → (words bytes : List ℕ) → Type 0
ReadSoFar i ws bs = take i ws ≡ words_at i 0 bs

pub none_read : (ws bs : List ℕ) → ReadSoFar 0 ws bs
unfolding ReadSoFar words_at
none_read ws bs = refl

module _ (i : ℕ) (ws bs : List ℕ) (z : ReadSoFar i ws bs) where
  pub word_read : (v : ℕ) → i < length ws → v ≡ number_at (8 * i) 8 bs → ReadSoFar (i + 1) (set ws i v) bs
  unfolding ReadSoFar
  word_read v h e =
      let from_0 : 0 + 8 * i ≡ 8 * i = omega arith in
      ap (λ k. take k (set ws i v)) (add-one i) ∙ take-suc-set ws i v h
      ∙ (λ j. z j ++ (e j ∷ [])) ∙ ap (λ k. words_at i 0 bs ++ (number_at k 8 bs ∷ [])) (sym from_0) ∙ sym (words_at_more i 0 bs) ∙ ap (λ k. words_at k 0 bs) (sym (add-one i))

  pub words_read : (n : ℕ) → length ws ≡ n → n ≤ i → i ≤ n → ws ≡ words_at n 0 bs
  unfolding ReadSoFar
  words_read n e h g =
      let same : i ≡ n = omega arith in
      sym (take_all i ws (omega arith)) ∙ z ∙ ap (λ k. words_at k 0 bs) same

pub ruleset read_laws = (none_read, word_read, words_read)

-- PUT: the words still to come are put behind those that are there
pub length_words_bytes : (ws : List ℕ) → length (words_bytes ws) ≡ 8 * length ws
unfolding words_bytes
length_words_bytes [] = refl
length_words_bytes (w ∷ ws) =
    length-append (bytes 8 w) (words_bytes ws) ∙ (omega (arith, length_bytes 8 w, length_words_bytes ws))

module _ (i : ℕ) (ws t z : List ℕ) (e : placed (8 * i) (words_bytes (drop i ws)) t ≡ z) where
  pub word_put : (c : ℕ) (u : List ℕ) → i < length ws → 8 * length ws ≤ length t → Put 8 (8 * i) (bytes 8 (get_or ws i 0)) t u c →
      placed (8 * (i + 1)) (words_bytes (drop (i + 1) ws)) u ≡ z
  unfolding words_bytes
  word_put c u h l x =
      let xs = bytes 8 (get_or ws i 0) in
      let ys = words_bytes (drop (suc i) ws) in
      let parts : words_bytes (drop i ws) ≡ xs ++ ys = ap words_bytes (drop-cons ws i 0 h) in
      let next : 8 * suc i ≡ c = omega (arith, x.1, length_bytes 8 (get_or ws i 0)) in
      ap (λ k. placed (8 * k) (words_bytes (drop k ws)) u) (add-one i) ∙ ap (λ k. placed k ys u) next
      ∙ rest_to_put 8 (8 * i) c xs ys t u z x
      (omega (arith, length-append xs ys, length_bytes 8 (get_or ws i 0), length_words_bytes (drop (suc i) ws), length-drop (suc i) ws)) (ap (λ bs. placed (8 * i) bs t) (sym parts) ∙ e)

  pub words_put : length ws ≤ i → t ≡ z
  unfolding words_bytes
  words_put h = sym (placed_none (8 * i) t) ∙ ap (λ l. placed (8 * i) (words_bytes l) t) (sym (drop_of_length-le ws h)) ∙ e

pub after_words : (ws : List ℕ) → 8 * length ws ≡ 0 + length (words_bytes ws)
after_words ws = omega (arith, length_words_bytes ws)

pub ruleset put_laws = (words_put, after_words)
