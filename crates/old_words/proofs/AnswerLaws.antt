-- The text that the program prints: the words, or their refusal. Assumes nothing.
use mathlib.Core.Path.{◌≡◌, sym, ap, ◌∙◌, subst}
use mathlib.Core.Bool.{cond}
use mathlib.Core.List.{List, [], ◌∷◌, ◌++◌}
use Prim.Native.Nat.{ℕ, ◌+◌, ◌*◌, ◌/◌, ◌≤◌, ◌<◌}
use native.Mathlib.Omega.{arith}
use lib.ListN.{length, take}
use lib.Seq.{length-take-le}
use borrow.Author.Tests.{eq-eqb, ne_eqb}
use Rattle.model.specs.Listing.{ascii, decimal, line}
use Rattle.model.specs.Old.{Way, Answer, words_at, words_bytes, Converted, convert_words, converted_text, words_text}
use Rattle.formats.proofs.OldLaws.{conversion_within}
use Rattle.text.specs.Text.{placed, Put}
use Rattle.text.proofs.TextLaws.{length_placed, both_put}
use Rattle.parts.proofs.PartLaws.{ended}
use Rattle.old_words.proofs.WordsLaws.{length_words_at}

-- A REFUSAL'S LINE
abbrev refusal : (number index : ℕ) → List ℕ
refusal n k = line (ascii "refused" ∷ decimal n ∷ decimal k ∷ [])

pub refusal_put : (n k b c d : ℕ) (name t₀ t₁ t₂ t₃ : List ℕ) → name ≡ ascii "refused" ++ ascii " " → t₁ ≡ placed 0 name t₀ → b ≡ 0 + length name →
    Put 6 b (ended n 32) t₁ t₂ c → Put 6 c (ended k 10) t₂ t₃ d → 30 ≤ length t₀ → Put 30 0 (line (ascii "refused" ∷ decimal n ∷ decimal k ∷ [])) t₀ t₃ d
unfolding line ascii
refusal_put n k b c d name t₀ t₁ t₂ t₃ e p q x y h =
    let long : length name ≡ 8 = ap length e in
    let same : length t₁ ≡ length t₀ = ap length p ∙ length_placed 0 name t₀ (omega arith) in
    let numbers = both_put 12 6 6 b c d (ended n 32) (ended k 10) t₁ t₂ t₃ x y (omega arith) (omega arith) in
    let all = both_put 20 8 12 0 b d name (ended n 32 ++ ended k 10) t₀ t₁ t₃ (p, q, omega arith) numbers (omega arith) (omega arith) in
    let bytes : name ++ (ended n 32 ++ ended k 10) ≡ refusal n k = ap (λ xs. xs ++ (ended n 32 ++ ended k 10)) e in
    subst (λ xs. Put 30 0 xs t₀ t₃ d) bytes (all.0, all.1, omega (arith, all.2))

-- THE ANSWER, in the words that are left
module _ (n k : ℕ) (ws t u : List ℕ) (r : ℕ) where
  abbrev answered : Converted
  answered = record { answer = record { number = n; index = k }; words = ws }

  pub refused_put : (n ≡ 0 → ⊥) → Put 30 0 (line (ascii "refused" ∷ decimal n ∷ decimal k ∷ [])) t u r → Put 32768 0 (converted_text answered) t u r
  unfolding converted_text
  refused_put d x =
      subst (λ xs. Put 32768 0 xs t u r) (sym (ap (λ b. cond b (words_bytes ws) (refusal n k)) (ne_eqb n 0 d))) (x.0, x.1, omega (arith, x.2))

  pub words_answered : n ≡ 0 → length ws ≤ 4096 → Put (8 * length ws) 0 (words_bytes ws) t u r → Put 32768 0 (converted_text answered) t u r
  unfolding converted_text
  words_answered e l x =
      subst (λ xs. Put 32768 0 xs t u r) (sym (ap (λ b. cond b (words_bytes ws) (refusal n k)) (eq-eqb n 0 e))) (x.0, x.1, omega (arith, x.2))

-- of the words that the bytes hold
module _ (y : Way) (ws : List ℕ) (x : Answer) (e : x ≡ (convert_words y ws).answer) where
  pub index_short : (count : ℕ) (bs : List ℕ) → ws ≡ words_at count 0 bs → count ≤ 4096 → x.index < 65536
  index_short count bs read l =
      let h = (conversion_within y ws).1 in
      let z = ap (λ a. a.index) e in
      omega (arith, ap length read, length_words_at count 0 bs)

  pub text_put : (count : ℕ) (vs bs t u : List ℕ) (r : ℕ) → ws ≡ words_at count 0 bs → 8 * count ≡ length bs → vs ≡ (convert_words y ws).words →
      Put 32768 0 (converted_text (record { answer = x; words = vs })) t u r → Put 32768 0 (words_text y bs) t u r
  unfolding words_text
  text_put count vs bs t u r read whole left p =
      let m : length bs / 8 ≡ count = omega arith in
      let same : convert_words y ws ≡ convert_words y (words_at (length bs / 8) 0 bs) = ap (convert_words y) (read ∙ ap (λ j. words_at j 0 bs) (sym m)) in
      subst (λ xs. Put 32768 0 xs t u r) ((λ i. converted_text (record { answer = e i; words = left i })) ∙ ap converted_text same) p

pub ruleset text_laws = (index_short, text_put)

-- the front of what is lent
module _ (n : ℕ) (xs : List ℕ) (h : n ≤ length xs) where
  pub front_at_most : {k : ℕ} → n ≤ k → length (take n xs) ≤ k
  front_at_most g = omega (arith, length-take-le n xs h)

  pub front_whole : {k : ℕ} → 8 * n ≡ k → 8 * length (take n xs) ≡ k
  front_whole e = ap (λ m. 8 * m) (length-take-le n xs h) ∙ e
