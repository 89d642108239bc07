-- The lines of the list. Assumes nothing.
use mathlib.Core.Path.{◌≡◌, sym, ap, ◌∙◌, subst}
use mathlib.Core.List.{List, ◌++◌, append_assoc}
use Prim.Native.Nat.{ℕ, ◌+◌, ◌-◌, ◌≤◌, min}
use native.Mathlib.Numerals.{add-one}
use native.Mathlib.Omega.{arith}
use lib.ListN.{length}
use borrow.Author.Tests.{eq-eqb, ne_eqb}
use Rattle.model.specs.Words.{descriptor_in}
use Rattle.model.specs.Registers.{Delivery}
use Rattle.model.specs.Listing.{ascii, line}
use Rattle.model.specs.Doors.{door_line, faults_line}
use Rattle.text.specs.Text.{Put}
use Rattle.text.proofs.TextLaws.{placed_none, both_put}
use Rattle.parts.proofs.PartLaws.{ended}
use Rattle.doorways.specs.Door.{door_by}

-- what takes less room
pub put_within : (n m a r : ℕ) (bs t u : List ℕ) → n ≤ m → Put n a bs t u r → Put m a bs t u r
put_within n m a r bs t u l p = (p.0, p.1, omega (arith, p.2))

regroup : (a b c d e f : List ℕ) → a ++ b ++ c ++ d ++ e ++ f ≡ a ++ (b ++ (c ++ (d ++ (e ++ f))))
regroup a b c d e f = simp append_assoc

-- A DOOR, by the fields that the code takes out
module _ (s w l r2 r3 : ℕ) (is_last : l ≡ min (descriptor_in w).gate (descriptor_in w).length - 1) (is_r2 : r2 ≡ (descriptor_in w).r2) (is_r3 : r3 ≡ (descriptor_in w).r3) where
  abbrev parts : (name : List ℕ) → List ℕ
  parts name = name ++ ended s 32 ++ ended l 32 ++ ended (r2 + 1) 32 ++ ended r3 32 ++ ended r2 10

  line_parts : (name : List ℕ) → name ≡ ascii "door" ++ ascii " " → parts name ≡ door_line (door_by s (descriptor_in w))
  unfolding door_line door_by line ascii
  line_parts name is_door =
      regroup name (ended s 32) (ended l 32) (ended (r2 + 1) 32) (ended r3 32) (ended r2 10) ∙ rw (is_door, add-one, ← is_last, ← is_r2, ← is_r3)

  pub door_put : (a b c d e g : ℕ) (name t₀ t₁ t₂ t₃ t₄ t₅ : List ℕ) → name ≡ ascii "door" ++ ascii " " → Put 19 a (name ++ ended s 32) t₀ t₁ b →
      Put 6 b (ended l 32) t₁ t₂ c → Put 2 c (ended (r2 + 1) 32) t₂ t₃ d → Put 2 d (ended r3 32) t₃ t₄ e → Put 2 e (ended r2 10) t₄ t₅ g → a + 32 ≤ length t₀ →
      Put 32 a (door_line (door_by s (descriptor_in w))) t₀ t₅ g
  door_put a b c d e g name t₀ t₁ t₂ t₃ t₄ t₅ is_door p₁ p₂ p₃ p₄ p₅ h =
      let to_last = name ++ ended s 32 in
      let to_from = to_last ++ ended l 32 in
      let to_to = to_from ++ ended (r2 + 1) 32 in
      let s₂ = both_put 25 19 6 a b c to_last (ended l 32) t₀ t₁ t₂ p₁ p₂ (omega arith) (omega arith) in
      let s₃ = both_put 27 25 2 a c d to_from (ended (r2 + 1) 32) t₀ t₂ t₃ s₂ p₃ (omega arith) (omega arith) in
      let s₄ = both_put 29 27 2 a d e to_to (ended r3 32) t₀ t₃ t₄ s₃ p₄ (omega arith) (omega arith) in
      let s₅ = both_put 31 29 2 a e g (to_to ++ ended r3 32) (ended r2 10) t₀ t₄ t₅ s₄ p₅ (omega arith) (omega arith) in
      subst (λ bs. Put 32 a bs t₀ t₅ g) (line_parts name is_door) (put_within 31 32 a g (parts name) t₀ t₅ (omega arith) s₅)

-- FAULTS
module _ (v : Delivery) (a : ℕ) (t : List ℕ) where
  pub no_faults_put : (v.switch ≡ 1 → ⊥) → Put 32 a (faults_line v) t t a
  unfolding faults_line
  no_faults_put e = rw (ne_eqb _ _ e) (sym (placed_none a t), omega arith, omega arith)

  pub faults_put : v.switch ≡ 1 → (b c : ℕ) (name u w : List ℕ) → name ≡ ascii "faults" ++ ascii " " → Put 19 a (name ++ ended v.save 32) t u b →
      Put 6 b (ended v.handler 10) u w c → a + 32 ≤ length t → Put 32 a (faults_line v) t w c
  unfolding faults_line line ascii
  faults_put e b c name u w is_faults p q h =
      let s = both_put 25 19 6 a b c (name ++ ended v.save 32) (ended v.handler 10) t u w p q (omega arith) (omega arith) in
      rw (eq-eqb _ _ e)
      (put_within 25 32 a c _ t w (omega arith) (subst (λ bs. Put 25 a bs t w c) (ap (λ bs. bs ++ ended v.save 32 ++ ended v.handler 10) is_faults ∙ simp append_assoc) s))
