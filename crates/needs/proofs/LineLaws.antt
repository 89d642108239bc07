-- The text that the program prints: a line, five of them, or a refusal. Assumes nothing.
use mathlib.Core.Path.{◌≡◌, refl, ap, ◌∙◌, subst}
use mathlib.Core.List.{List, [], ◌∷◌, ◌++◌}
use mathlib.Core.Logic.{inr}
use Prim.Native.Nat.{ℕ, zero, suc, ◌+◌, ◌≤◌}
use Prim.Native.String.{String}
use native.Mathlib.Omega.{arith}
use lib.ListN.{length, replicate}
use Rattle.model.specs.Run.{unless_refused}
use Rattle.model.specs.Listing.{ascii, decimal, line, refusal_line}
use Rattle.model.specs.Needs.{Needs, need_line, needs_lines}
use Rattle.reading.specs.Read.{ZerosLent}
use Rattle.text.specs.Text.{placed, Put}
use Rattle.text.proofs.TextLaws.{both_put}
use Rattle.parts.proofs.PartLaws.{ended}

-- A LINE
pub line_put : (n a b c : ℕ) (name t u w : List ℕ) → u ≡ placed a name t → b ≡ a + length name → length name ≤ 9 → Put 21 b (decimal n ++ (10 ∷ [])) u w c →
    a + 30 ≤ length t → Put 30 a (name ++ (decimal n ++ (10 ∷ []))) t w c
line_put n a b c name t u w p q l x h =
    both_put 30 9 21 a b c name (decimal n ++ (10 ∷ [])) t u w (p, q, omega arith) x (omega arith) h

named : (s : String) (n : ℕ) (name : List ℕ) → name ≡ ascii s ++ ascii " " → name ++ ended n 10 ≡ need_line s n
unfolding need_line line ascii
named s n name e = ap (λ xs. xs ++ ended n 10) e

-- FIVE of them
module _ (words count budget lines pointers : ℕ) (b c d e f : ℕ) (n₁ n₂ n₃ n₄ n₅ t₀ t₁ t₂ t₃ t₄ t₅ : List ℕ) where
  pub figures_put : n₁ ≡ ascii "memory" ++ ascii " " → n₂ ≡ ascii "records" ++ ascii " " → n₃ ≡ ascii "budget" ++ ascii " " → n₄ ≡ ascii "lines" ++ ascii " " →
      n₅ ≡ ascii "pointers" ++ ascii " " → Put 30 0 (n₁ ++ (decimal words ++ (10 ∷ []))) t₀ t₁ b → Put 30 b (n₂ ++ (decimal count ++ (10 ∷ []))) t₁ t₂ c →
      Put 30 c (n₃ ++ (decimal budget ++ (10 ∷ []))) t₂ t₃ d → Put 30 d (n₄ ++ (decimal lines ++ (10 ∷ []))) t₃ t₄ e →
      Put 30 e (n₅ ++ (decimal pointers ++ (10 ∷ []))) t₄ t₅ f → 150 ≤ length t₀ →
      Put 150 0
      (need_line "memory" words ++ need_line "records" count ++ need_line "budget" budget ++ need_line "lines" lines ++ need_line "pointers" pointers)
      t₀ t₅ f
  figures_put p₁ p₂ p₃ p₄ p₅ q₁ q₂ q₃ q₄ q₅ h =
      let l₁ = subst (λ xs. Put 30 0 xs t₀ t₁ b) (named "memory" words n₁ p₁) q₁ in
      let l₂ = subst (λ xs. Put 30 b xs t₁ t₂ c) (named "records" count n₂ p₂) q₂ in
      let l₃ = subst (λ xs. Put 30 c xs t₂ t₃ d) (named "budget" budget n₃ p₃) q₃ in
      let l₄ = subst (λ xs. Put 30 d xs t₃ t₄ e) (named "lines" lines n₄ p₄) q₄ in
      let l₅ = subst (λ xs. Put 30 e xs t₄ t₅ f) (named "pointers" pointers n₅ p₅) q₅ in
      let two = both_put 60 30 30 0 b c _ _ t₀ t₁ t₂ l₁ l₂ (omega arith) (omega arith) in
      let three = both_put 90 60 30 0 c d _ _ t₀ t₂ t₃ two l₃ (omega arith) (omega arith) in
      let four = both_put 120 90 30 0 d e _ _ t₀ t₃ t₄ three l₄ (omega arith) (omega arith) in
      both_put 150 120 30 0 e f _ _ t₀ t₄ t₅ four l₅ (omega arith) h

-- THE ANSWER
module _ (x : Needs) (t u : List ℕ) (r : ℕ) where
  pub refusal_put : (x.number ≡ 0 → ⊥) → (name : List ℕ) → name ≡ ascii "refused" ++ ascii " " → Put 30 0 (name ++ (decimal x.number ++ (10 ∷ []))) t u r → Put 150 0 (needs_lines x) t u r
  unfolding needs_lines unless_refused refusal_line need_line
  refusal_put h name e p =
      subst (λ xs. Put 150 0 xs t u r) (named "refused" x.number name e ∙ by_number x.number h _) (p.0, p.1, omega (arith, p.2))
    where
      by_number : (n : ℕ) → (n ≡ 0 → ⊥) → (ys : List ℕ) → need_line "refused" n ≡ unless_refused n refusal_line ys
      by_number zero h ys = absurd (h refl)
      by_number (suc n) h ys = refl

  pub needs_put : x.number ≡ 0 →
      Put 150 0 (need_line "memory" x.memory ++ need_line "records" x.records ++ need_line "budget" x.budget ++ need_line "lines" x.lines ++ need_line "pointers" x.pointers) t u r →
      Put 150 0 (needs_lines x) t u r
  unfolding needs_lines unless_refused
  needs_put z p = rw z p

pub ruleset texts = (figures_put, refusal_put, needs_put)

-- the set alone may be lent
pub set_lent : (m : List ℕ) → m ≡ replicate 128 0 → ZerosLent m
unfolding ZerosLent
set_lent m e = inr e
