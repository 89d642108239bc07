-- A verdict as a line. Assumes nothing.
use mathlib.Core.Path.{◌≡◌, sym, ap, ◌∙◌}
use mathlib.Core.List.{List, ◌++◌}
use Prim.Native.Nat.{ℕ, ◌+◌, ◌≤◌}
use native.Mathlib.Omega.{arith}
use lib.ListN.{length}
use Rattle.model.specs.Words.{Pointer}
use Rattle.model.specs.Check as Check
use Rattle.model.specs.Listing.{ascii, line, check_line}
use Rattle.text.specs.Text.{placed}
use Rattle.text.proofs.TextLaws.{length_placed, next_after, put_after}
use Rattle.parts.proofs.PartLaws.{ended}
use Rattle.checks.specs.View.{as_check}
use Rattle.checks.specs.declared.Verdict.{Verdict}

-- a fault's line: its number, and the pointer's numbers
module _ (f r s w a b c d e : ℕ) (named t₀ t₁ t₂ t₃ t₄ : List ℕ) (is_fault : named ≡ (ascii "fault" ++ ascii " ") ++ ended f 32)
    (p₁ : t₁ ≡ placed a named t₀) (q₁ : b ≡ a + length named) (l₁ : b ≤ a + 19)
    (p₂ : t₂ ≡ placed b (ended r 32) t₁) (q₂ : c ≡ b + length (ended r 32)) (l₂ : c ≤ b + 2)
    (p₃ : t₃ ≡ placed c (ended s 32) t₂) (q₃ : d ≡ c + length (ended s 32)) (l₃ : d ≤ c + 6)
    (p₄ : t₄ ≡ placed d (ended w 10) t₃) (q₄ : e ≡ d + length (ended w 10)) (l₄ : e ≤ d + 6) where
  abbrev p : Pointer
  p = record { ring = r; segment = s; word = w }

  parts : named ++ (ended r 32 ++ (ended s 32 ++ ended w 10)) ≡ check_line (Check.fault f p)
  unfolding check_line line ascii
  parts = ap (λ bs. bs ++ (ended r 32 ++ (ended s 32 ++ ended w 10))) is_fault

  from_segment : e ≡ c + length (ended s 32 ++ ended w 10)
  from_segment = next_after c d e (ended s 32) (ended w 10) q₃ q₄

  from_ring : e ≡ b + length (ended r 32 ++ (ended s 32 ++ ended w 10))
  from_ring = next_after b c e (ended r 32) (ended s 32 ++ ended w 10) q₂ from_segment

  pub next_after_fault : e ≡ a + length (check_line (Check.fault f p))
  next_after_fault = next_after a b e named (ended r 32 ++ (ended s 32 ++ ended w 10)) q₁ from_ring ∙ ap (λ bs. a + length bs) parts

  pub fault_put : a + 40 ≤ length t₀ → t₄ ≡ placed a (check_line (Check.fault f p)) t₀
  fault_put h =
      let z₁ : length t₁ ≡ length t₀ = ap length p₁ ∙ length_placed a named t₀ (omega arith) in
      let z₂ : length t₂ ≡ length t₁ = ap length p₂ ∙ length_placed b (ended r 32) t₁ (omega arith) in
      put_after a b e named (ended r 32 ++ (ended s 32 ++ ended w 10)) t₀ t₁ t₄ p₁ q₁
      (put_after b c e (ended r 32) (ended s 32 ++ ended w 10) t₁ t₂ t₄ p₂ q₂
      (put_after c d e (ended s 32) (ended w 10) t₂ t₃ t₄ p₃ q₃ p₄ q₄ (omega arith))
      from_segment (omega arith))
      from_ring (omega arith)
      ∙ ap (λ bs. placed a bs t₀) parts

-- the verdict's case
module _ (v k : Verdict) (a b : ℕ) (bs t u : List ℕ) (case : v ≡ k) (same : bs ≡ check_line (as_check k)) where
  verdict_line : bs ≡ check_line (as_check v)
  verdict_line = same ∙ ap (λ x. check_line (as_check x)) (sym case)

  pub next_after_line : b ≡ a + length bs → b ≡ a + length (check_line (as_check v))
  next_after_line e = e ∙ ap (λ xs. a + length xs) verdict_line

  pub line_put : u ≡ placed a bs t → u ≡ placed a (check_line (as_check v)) t
  line_put e = e ∙ ap (λ xs. placed a xs t) verdict_line

pub ruleset line_laws = (next_after_line, line_put)
