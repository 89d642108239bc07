-- The PRs put one after another: those still to be put are put after those that are there. Assumes nothing.
use mathlib.Core.Path.{◌≡◌, refl, sym, ap, ap₂, ◌∙◌}
use mathlib.Core.List.{List, ◌++◌}
use Prim.Native.Nat.{ℕ, ◌+◌, ◌*◌, ◌-◌, ◌≤◌, ◌<◌}
use native.Mathlib.Numerals.{add-one}
use native.Mathlib.Omega.{arith}
use lib.ListN.{length, drop, length-drop, drop_of_length-le}
use lib.Seq.{drop-cons}
use Rattle.model.specs.Words.{Pointer}
use Rattle.model.specs.Registers.{zero_pointer}
use Rattle.model.specs.Write.{pointer_bytes, pointers_bytes}
use Rattle.formats.proofs.WriteLaws.{length_pointer_bytes, length_pointers_bytes}
use Rattle.state.specs.View.{pointers_in, as_pointers, pr_of}
use Rattle.text.specs.Text.{placed, Put}
use Rattle.text.proofs.TextLaws.{placed_none, rest_to_put}

-- the bytes of those from PR k on
abbrev pub prs_from : (k : ℕ) → (prs : List ℕ) → List ℕ
prs_from k prs = pointers_bytes (drop k (as_pointers prs))

module _ (prs : List ℕ) where
  eight_pointers : length (as_pointers prs) ≡ 8
  unfolding as_pointers pointers_in
  eight_pointers = refl

  length_prs_from : (k : ℕ) → length (prs_from k prs) ≡ 5 * (8 - k)
  length_prs_from k = length_pointers_bytes (drop k (as_pointers prs)) ∙ ap (λ n. 5 * n) (length-drop k (as_pointers prs) ∙ ap (λ n. n - k) eight_pointers)

  one_pr_less : (k : ℕ) (p : Pointer) → k < 8 → p ≡ pr_of prs k → prs_from k prs ≡ pointer_bytes p ++ prs_from (k + 1) prs
  unfolding pointers_bytes pr_of
  one_pr_less k p l f =
      ap pointers_bytes (drop-cons (as_pointers prs) k zero_pointer (omega (arith, eight_pointers)))
      ∙ ap₂ (λ y n. pointer_bytes y ++ prs_from n prs) (sym f) (sym (add-one k))

  pub after_eight : (a b k : ℕ) → b ≡ a + 5 * k → k ≤ 8 → 8 ≤ k → b ≡ a + length (pointers_bytes (as_pointers prs))
  after_eight a b k q l m = omega (arith, length_prs_from 0)

  module _ (b k : ℕ) (t z : List ℕ) (e : placed b (prs_from k prs) t ≡ z) where
    pub no_pr_to_put : 8 ≤ k → t ≡ z
    unfolding pointers_bytes
    no_pr_to_put l =
        let none = drop_of_length-le (as_pointers prs) {i = k} (omega (arith, eight_pointers)) in
        sym (placed_none b t) ∙ ap (λ ps. placed b (pointers_bytes ps) t) (sym none) ∙ e

    pub prs_to_put : (c : ℕ) (p : Pointer) (u : List ℕ) → k < 8 → p ≡ pr_of prs k → b + 5 * (8 - k) ≤ length t → Put 5 b (pointer_bytes p) t u c
        → placed c (prs_from (k + 1) prs) u ≡ z
    prs_to_put c p u l f h x =
        let parts = one_pr_less k p l f in
        rest_to_put 5 b c (pointer_bytes p) (prs_from (k + 1) prs) t u z x
        (omega (arith, ap length parts, length_prs_from k)) (ap (λ bs. placed b bs t) (sym parts) ∙ e)

pub next_after_pr : (a b c k : ℕ) (p : Pointer) → b ≡ a + 5 * k → c ≡ b + length (pointer_bytes p) → c ≡ a + 5 * (k + 1)
next_after_pr a b c k p q s = omega (arith, length_pointer_bytes p)

pub ruleset prs_laws = (after_eight, no_pr_to_put, next_after_pr)
