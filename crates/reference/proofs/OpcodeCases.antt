-- The table's numbers are those that 03 knows. Assumes nothing.
use mathlib.Core.Path.{◌≡◌, refl}
use mathlib.Core.Bool.{Bool, true, false, ◌&&◌}
use mathlib.Core.Option.{none}
use Prim.Native.Nat.{ℕ, suc, ◌≤◌}
use native.Mathlib.Nat.{not-le_of_lt}
use native.Mathlib.Omega.{arith}
use lib.Dec.{leb}
use borrow.Author.Tests.{leb-true, ne_eqb}
use Rattle.model.specs.Opcodes.{decoded}
use Rattle.model.proofs.TableLaws.{Each, Outside, outside_not_decoded, each_number}
use Rattle.model.proofs.Computing.{by_computation}
use Rattle.model.proofs.BranchLaws.{and_left, and_right}
use Rattle.reference.specs.Step as Step03

range_fails : (a b n : ℕ) → (a ≤ n → n ≤ b → ⊥) → (leb a n && leb n b) ≡ false
range_fails a b n h = by_test (leb a n && leb n b) refl
  where
    by_test : (t : Bool) → (leb a n && leb n b) ≡ t → t ≡ false
    by_test true e = absurd (h (leb-true a n (and_left (leb a n) (leb n b) e)) (leb-true n b (and_right (leb a n) (leb n b) e)))
    by_test false e = refl

-- past k, if not at it
above : (k n : ℕ) → (n ≡ k → ⊥) → k ≤ n → suc k ≤ n
above k n e h = omega arith

outside_unknown : (n : ℕ) → Outside n → Step03.known n ≡ false
unfolding by_computation Step03.known
outside_unknown n out =
    let past_5 : 1 ≤ n → 6 ≤ n =
    λ h. above 5 n out.ana (above 4 n out.sba (above 3 n out.ada (above 2 n out.sta (above 1 n out.lda h)))) in
    let past_10 : 6 ≤ n → 11 ≤ n =
    λ h. above 10 n out.ldi (above 9 n out.aos (above 8 n out.cnt (above 7 n out.xra (above 6 n out.ora h)))) in
    let past_26 : 24 ≤ n → 27 ≤ n = λ h. above 26 n out.tmi (above 25 n out.tze (above 24 n out.tra h)) in
    let past_42 : 40 ≤ n → 43 ≤ n = λ h. above 42 n out.rcu (above 41 n out.hlt (above 40 n out.ldbr h)) in
    rw (
      range_fails 1 10 n (λ p q. not-le_of_lt (past_10 (past_5 p)) q),
      range_fails 24 26 n (λ p q. not-le_of_lt (past_26 p) q),
      ne_eqb n 16 out.eap,
      ne_eqb n 17 out.spp,
      ne_eqb n 32 out.call,
      ne_eqb n 33 out.return,
      range_fails 40 42 n (λ p q. not-le_of_lt (past_42 p) q),
    ) refl

pub opcode_cases : (P : ℕ → Type 0) → Each (λ o. P o.number) → ((n : ℕ) → Step03.known n ≡ false → decoded n ≡ none → P n) → (n : ℕ) → P n
opcode_cases P h other = each_number P h (λ n out. other n (outside_unknown n out) (outside_not_decoded n out))
