-- A step's line is its numbers, each put with the byte that ends it. Assumes nothing.
use mathlib.Core.Path.{◌≡◌, ap, ◌∙◌}
use mathlib.Core.List.{List, [], ◌∷◌, ◌++◌, append_assoc}
use Prim.Native.Nat.{ℕ, ◌+◌, ◌≤◌}
use native.Mathlib.Omega.{arith}
use lib.ListN.{length, length-append}
use Rattle.model.specs.Run.{Traced}
use Rattle.model.specs.Listing.{ascii, decimal, line, step_line}
use Rattle.text.specs.Text.{placed}
use Rattle.text.proofs.TextLaws.{length_placed, next_after, put_after}
use Rattle.parts.specs.Spaced.{spaced_pointer}
use Rattle.parts.proofs.PartLaws.{ended}

-- a step's line: its number, a pointer, and how many pointer words
module _ (n r s w k : ℕ) where
  step_line_parts : ended n 32 ++ (spaced_pointer r s w ++ ended k 10) ≡ step_line n (record { ipr = record { ring = r; segment = s; word = w }; pointers = k })
  unfolding step_line line ascii spaced_pointer
  step_line_parts =
      ap (λ bs. ended n 32 ++ bs) (append_assoc (ended r 32) (ended s 32 ++ ended w 32) (ended k 10)
      ∙ ap (λ bs. ended r 32 ++ bs) (append_assoc (ended s 32) (ended w 32) (ended k 10)))

  module _ (a b c d : ℕ) (q₁ : b ≡ a + length (ended n 32)) (q₂ : c ≡ b + length (spaced_pointer r s w)) (q₃ : d ≡ c + length (ended k 10)) where
    pointer_next : d ≡ b + length (spaced_pointer r s w ++ ended k 10)
    pointer_next = next_after b c d (spaced_pointer r s w) (ended k 10) q₂ q₃

    pub next_after_step_line : d ≡ a + length (step_line n (record { ipr = record { ring = r; segment = s; word = w }; pointers = k }))
    next_after_step_line =
        next_after a b d (ended n 32) (spaced_pointer r s w ++ ended k 10) q₁ pointer_next ∙ ap (λ bs. a + length bs) step_line_parts

    module _ (t₀ t₁ t₂ t₃ : List ℕ) (p₁ : t₁ ≡ placed a (ended n 32) t₀) (p₂ : t₂ ≡ placed b (spaced_pointer r s w) t₁)
        (p₃ : t₃ ≡ placed c (ended k 10) t₂) where
      pub step_line_put_in : d ≤ length t₀ → t₃ ≡ placed a (step_line n (record { ipr = record { ring = r; segment = s; word = w }; pointers = k })) t₀
      step_line_put_in h =
          let z : length t₁ ≡ length t₀ = ap length p₁ ∙ length_placed a (ended n 32) t₀ (omega arith) in
          put_after a b d (ended n 32) (spaced_pointer r s w ++ ended k 10) t₀ t₁ t₃ p₁ q₁
          (put_after b c d (spaced_pointer r s w) (ended k 10) t₁ t₂ t₃ p₂ q₂ p₃ q₃ (omega arith))
          pointer_next h
          ∙ ap (λ bs. placed a bs t₀) step_line_parts

      pub step_line_put : b ≤ a + 2 → c ≤ b + 14 → d ≤ c + 6 → a + 27 ≤ length t₀
          → t₃ ≡ placed a (step_line n (record { ipr = record { ring = r; segment = s; word = w }; pointers = k })) t₀
      step_line_put l m o h = step_line_put_in (omega arith)

-- how long it is: its numbers, and the byte after each
pub length_of_step_line : (n : ℕ) (x : Traced) →
    length (step_line n x)
    ≡ length (decimal n) + length (decimal x.ipr.ring) + length (decimal x.ipr.segment) + length (decimal x.ipr.word) + length (decimal x.pointers) + 5
unfolding step_line line ascii
length_of_step_line n x =
    let r₁ : List ℕ = ended x.ipr.word 32 ++ ended x.pointers 10 in
    let r₂ : List ℕ = ended x.ipr.segment 32 ++ r₁ in
    let r₃ : List ℕ = ended x.ipr.ring 32 ++ r₂ in
    omega (
      arith,
      length-append (ended n 32) r₃,
      length-append (ended x.ipr.ring 32) r₂,
      length-append (ended x.ipr.segment 32) r₁,
      length-append (ended x.ipr.word 32) (ended x.pointers 10),
      length-append (decimal n) (32 ∷ []),
      length-append (decimal x.ipr.ring) (32 ∷ []),
      length-append (decimal x.ipr.segment) (32 ∷ []),
      length-append (decimal x.ipr.word) (32 ∷ []),
      length-append (decimal x.pointers) (10 ∷ []),
    )

pub ruleset step_line_laws = (next_after_step_line, step_line_put)
