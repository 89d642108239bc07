-- A number's bytes put from the last to the first: those still to be put stand before those that are there. Assumes nothing.
use mathlib.Core.Path.{◌≡◌, sym, ap, ◌∙◌}
use mathlib.Core.List.{List}
use Prim.Native.Nat.{ℕ, suc, ◌+◌, ◌-◌, ◌/◌, ◌%◌, ◌≤◌, ◌<◌}
use native.Mathlib.Omega.{arith}
use lib.ListN.{length, set}
use Rattle.model.specs.Write.{bytes}
use Rattle.formats.proofs.WriteLaws.{length_bytes, bytes_last}
use Rattle.text.specs.Text.{placed}
use Rattle.text.proofs.TextLaws.{placed_none, placed_last}

module _ (a n v : ℕ) where
  pub next_after_bytes : a + n ≡ a + length (bytes n v)
  next_after_bytes = ap (λ k. a + k) (sym (length_bytes n v))

  pub every_byte_to_put : (t : List ℕ) → placed a (bytes (a + n - a) v) t ≡ placed a (bytes n v) t
  every_byte_to_put t = let e : a + n - a ≡ n = omega arith in ap (λ k. placed a (bytes k v) t) e

module _ (a i v : ℕ) (t z : List ℕ) (e : placed a (bytes (i - a) v) t ≡ z) where
  pub last_byte_put : a < i → i ≤ length t → placed a (bytes (i - 1 - a) (v / 256)) (set t (i - 1) (v % 256)) ≡ z
  last_byte_put l h =
      let k : ℕ = i - 1 - a in
      let before : List ℕ = bytes k (v / 256) in
      let long : length before ≡ k = length_bytes k (v / 256) in
      let place : i - 1 ≡ a + length before = omega arith in
      let size : suc k ≡ i - a = omega arith in
      ap (λ j. placed a before (set t j (v % 256))) place ∙ placed_last a before (v % 256) t (omega arith)
      ∙ ap (λ bs. placed a bs t) (sym (bytes_last k v) ∙ ap (λ j. bytes j v) size) ∙ e

  pub no_byte_to_put : i ≤ a → t ≡ z
  unfolding bytes
  no_byte_to_put l = let none : i - a ≡ 0 = omega arith in sym (placed_none a t) ∙ ap (λ k. placed a (bytes k v) t) (sym none) ∙ e

pub ruleset number_laws = (next_after_bytes, every_byte_to_put, last_byte_put, no_byte_to_put)
