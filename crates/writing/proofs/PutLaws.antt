-- The parts of a record and of an image, put one after another. Assumes nothing.
use mathlib.Core.Path.{◌≡◌, sym, ap, ◌∙◌}
use mathlib.Core.Bool.{cond}
use mathlib.Core.List.{List, [], ◌++◌}
use Prim.Native.Nat.{ℕ, ◌+◌, ◌*◌, ◌≤◌}
use native.Mathlib.Omega.{arith}
use lib.Dec.{eqb}
use lib.ListN.{length}
use borrow.Author.Tests.{eq-eqb, ne_eqb}
use Rattle.model.specs.Words.{Pointer}
use Rattle.model.specs.Registers.{Registers, Delivery, Machine}
use Rattle.model.specs.Listing.{ascii}
use Rattle.model.specs.Write.{bytes, pointer_bytes, pointers_bytes, ME_record, stored_ST, delivery_bytes, ST_record, WD_record, RN_record, word_records, written_image}
use Rattle.text.specs.Text.{placed, Put}
use Rattle.text.proofs.TextLaws.{length_placed, placed_none, both_put}

-- a mark and a number
pub marked_put : (a b c v : ℕ) (mark t u w : List ℕ) → u ≡ placed a mark t → b ≡ a + length mark → length mark ≡ 2 → Put 4 b (bytes 4 v) u w c
    → a + 6 ≤ length t → Put 6 a (mark ++ bytes 4 v) t w c
marked_put a b c v mark t u w p q k r h = both_put 6 2 4 a b c mark (bytes 4 v) t u w (p, q, omega arith) r (omega arith) h

-- three numbers
pub three_put : (a b c d x y z : ℕ) (t₀ t₁ t₂ t₃ : List ℕ) → Put 1 a (bytes 1 x) t₀ t₁ b → Put 2 b (bytes 2 y) t₁ t₂ c → Put 2 c (bytes 2 z) t₂ t₃ d
    → a + 5 ≤ length t₀ → Put 5 a (bytes 1 x ++ bytes 2 y ++ bytes 2 z) t₀ t₃ d
three_put a b c d x y z t₀ t₁ t₂ t₃ p q r h =
    both_put 5 3 2 a c d (bytes 1 x ++ bytes 2 y) (bytes 2 z) t₀ t₂ t₃
    (both_put 3 1 2 a b c (bytes 1 x) (bytes 2 y) t₀ t₁ t₂ p q (omega arith) (omega arith)) r (omega arith) h

-- WD: none for a zero
module _ (a v w : ℕ) (t : List ℕ) where
  pub zero_word_put : w ≡ 0 → Put 14 a (cond (eqb w 0) [] (WD_record v w)) t t a
  zero_word_put e = rw (eq-eqb w 0 e) (sym (placed_none a t), omega arith, omega arith)

  pub word_put : (w ≡ 0 → ⊥) → (b c : ℕ) (mark u x : List ℕ) → mark ≡ ascii "WD" → Put 6 a (mark ++ bytes 4 v) t u b → Put 8 b (bytes 8 w) u x c
      → a + 14 ≤ length t → Put 14 a (cond (eqb w 0) [] (WD_record v w)) t x c
  unfolding WD_record
  word_put n b c mark u x e p q h = rw (ne_eqb w 0 n, ← e) (both_put 14 6 8 a b c (mark ++ bytes 4 v) (bytes 8 w) t u x p q (omega arith) h)

-- ST: its mark, A and DBR, and the rest of it
start_mark_long : (mark : List ℕ) → mark ≡ ascii "ST" → length mark ≡ 2
unfolding ascii
start_mark_long mark e = ap length e

module _ (a b c d e x y z : ℕ) (mark t₀ t₁ t₂ t₃ t₄ : List ℕ) where
  pub base_put : mark ≡ ascii "ST" → t₁ ≡ placed a mark t₀ → b ≡ a + length mark → Put 8 b (bytes 8 x) t₁ t₂ c → Put 4 c (bytes 4 y) t₂ t₃ d
      → Put 2 d (bytes 2 z) t₃ t₄ e → a + 16 ≤ length t₀ → Put 16 a (ascii "ST" ++ bytes 8 x ++ bytes 4 y ++ bytes 2 z) t₀ t₄ e
  base_put m p q p₂ p₃ p₄ h =
      let k : length mark ≡ 2 = start_mark_long mark m in
      let s₂ = both_put 10 2 8 a b c mark (bytes 8 x) t₀ t₁ t₂ (p, q, omega arith) p₂ (omega arith) (omega arith) in
      let s₃ = both_put 14 10 4 a c d (mark ++ bytes 8 x) (bytes 4 y) t₀ t₂ t₃ s₂ p₃ (omega arith) (omega arith) in
      rw (← m) (both_put 16 14 2 a d e (mark ++ bytes 8 x ++ bytes 4 y) (bytes 2 z) t₀ t₃ t₄ s₃ p₄ (omega arith) h)

module _ (a b c d e : ℕ) (r : Registers) (v : Delivery) (p : Pointer) (t₀ t₁ t₂ t₃ t₄ : List ℕ) where
  abbrev base : List ℕ
  base = ascii "ST" ++ bytes 8 r.a ++ bytes 4 r.dbr.address ++ bytes 2 r.dbr.length

  pub start_put : p ≡ r.ipr → Put 16 a base t₀ t₁ b → Put 5 b (pointer_bytes p) t₁ t₂ c → Put 40 c (pointers_bytes r.prs) t₂ t₃ d
      → Put 5 d (delivery_bytes v) t₃ t₄ e → a + 66 ≤ length t₀ → Put 66 a (ST_record r v) t₀ t₄ e
  unfolding ST_record stored_ST
  start_put f p₁ p₂ p₃ p₄ h =
      let s₂ = both_put 21 16 5 a b c base (pointer_bytes p) t₀ t₁ t₂ p₁ p₂ (omega arith) (omega arith) in
      let s₃ = both_put 61 21 40 a c d (base ++ pointer_bytes p) (pointers_bytes r.prs) t₀ t₂ t₃ s₂ p₃ (omega arith) (omega arith) in
      rw (← f) (both_put 66 61 5 a d e (base ++ pointer_bytes p ++ pointers_bytes r.prs) (delivery_bytes v) t₀ t₃ t₄ s₃ p₄ (omega arith) h)

-- the image
module _ (a b c d budget : ℕ) (m : Machine) (v : Delivery) (me rn t₀ t₁ t₂ t₃ t₄ : List ℕ) where
  pub image_put : me ≡ ascii "ME" → rn ≡ ascii "RN" → Put 6 0 (me ++ bytes 4 (length m.memory)) t₀ t₁ a → Put 66 a (ST_record m.registers v) t₁ t₂ b
      → Put (14 * length m.memory) b (word_records 0 m.memory) t₂ t₃ c → Put 6 c (rn ++ bytes 4 budget) t₃ t₄ d
      → 78 + 14 * length m.memory ≤ length t₀ → (t₄ ≡ placed 0 (written_image v m budget) t₀) × (d ≡ length (written_image v m budget)) × (d ≤ length t₄)
  unfolding written_image ME_record RN_record
  image_put e f p₁ p₂ p₃ p₄ h =
      let n : ℕ = 14 * length m.memory in
      let front : List ℕ = me ++ bytes 4 (length m.memory) ++ ST_record m.registers v in
      let s₂ = both_put 72 6 66 0 a b (me ++ bytes 4 (length m.memory)) (ST_record m.registers v) t₀ t₁ t₂ p₁ p₂ (omega arith) (omega arith) in
      let s₃ = both_put (72 + n) 72 n 0 b c front (word_records 0 m.memory) t₀ t₂ t₃ s₂ p₃ (omega arith) (omega arith) in
      let s₄ = both_put (78 + n) (72 + n) 6 0 c d (front ++ word_records 0 m.memory) (rn ++ bytes 4 budget) t₀ t₃ t₄ s₃ p₄ (omega arith) (omega arith) in
      let same : length t₄ ≡ length t₀ = ap length s₄.0 ∙ length_placed 0 _ t₀ (omega (arith, s₄.1, s₄.2)) in
      rw (← e, ← f) (s₄.0, omega (arith, s₄.1), omega (arith, s₄.2))
