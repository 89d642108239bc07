-- The table's rule, by one test over all of its numbers. Assumes nothing.
use Rattle.std.proofs.Common.{◌≡◌, ℕ, zero, suc, ◌<◌, ◌≤◌, Bool, true, false, not, ◌&&◌, eqb, sym, refl, ◌∙◌, subst, arith, eqb-true}
use borrow.Author.Tests.{eqb-false}
use Rattle.model.specs.Words.{field, on}
use Rattle.model.specs.Opcodes.{Opcode, decoded}
use Rattle.model.proofs.BranchLaws.{and_left, and_right}
use Rattle.model.proofs.Computing.{by_computation}
use Rattle.model.proofs.TableLaws.{Outside, outside_not_decoded}
use Rattle.opcodes.specs.declared.table.Entry.{Entry}
use Rattle.opcodes.specs.Table.{of_entry, reads_word, writes_word, moves_control, Told}

-- THE RULE OF A COLUMN over all numbers below n
same : (a b : Bool) → Bool
same true b = b
same false b = not b

same_true : (a b : Bool) → same a b ≡ true → a ≡ b
unfolding same
same_true true true e = refl
same_true true false e = sym e
same_true false true e = e
same_true false false e = refl

right_below : (n column : ℕ) → (Opcode → Bool) → Bool
right_below zero c f = true
right_below (suc n) c f = same (on n c) (of_entry f (decoded n)) && right_below n c f

-- of the last number, or of one before it
on_last : (P : ℕ → Type 0) (n k : ℕ) → P n → (k < n → P k) → k < suc n → P k
on_last P n k here before h = by_test (eqb k n) refl
  where
    by_test : (b : Bool) → eqb k n ≡ b → P k
    by_test true e = subst P (sym (eqb-true k n e)) here
    by_test false e = before (let ne = eqb-false k n e in omega arith)

column_right : (n c : ℕ) (f : Opcode → Bool) → right_below n c f ≡ true → (k : ℕ) → k < n → on k c ≡ of_entry f (decoded k)
unfolding right_below
column_right zero c f e k h = absurd (omega arith)
column_right (suc n) c f e k h =
    on_last (λ z. on z c ≡ of_entry f (decoded z)) n k (same_true _ _ (and_left _ (right_below n c f) e))
    (column_right n c f (and_right (same (on n c) (of_entry f (decoded n))) _ e) k) h

-- the five columns
abbrev Right : (column : ℕ) → (Opcode → Bool) → Type 0
Right c f = (k : ℕ) → k < 64 → on k c ≡ of_entry f (decoded k)

operands : Right 5510560678910 (λ o. o.operand)
unfolding right_below same of_entry on field by_computation
operands = column_right 64 5510560678910 (λ o. o.operand) refl

privileges : Right 7696581394432 (λ o. o.privileged)
unfolding right_below same of_entry on field by_computation
privileges = column_right 64 7696581394432 (λ o. o.privileged) refl

readers : Right 5497558139898 (λ o. reads_word o.access)
unfolding right_below same of_entry on field by_computation
readers = column_right 64 5497558139898 (λ o. reads_word o.access) refl

writers : Right 131588 (λ o. writes_word o.access)
unfolding right_below same of_entry on field by_computation
writers = column_right 64 131588 (λ o. writes_word o.access) refl

movers : Right 4411048853504 (λ o. moves_control o.access)
unfolding right_below same of_entry on field by_computation
movers = column_right 64 4411048853504 (λ o. moves_control o.access) refl

pub entry_law : (k : ℕ) (a b c d e : Bool) → k < 64 → a ≡ on k 5510560678910 → b ≡ on k 7696581394432 → c ≡ on k 5497558139898 → d ≡ on k 131588 → e ≡ on k 4411048853504 →
    Told k (record { operand = a; privileged = b; reads = c; writes = d; moves = e })
entry_law k a b c d e h i j l m n =
    record {
      operand_same = i ∙ operands k h;
      privilege_same = j ∙ privileges k h;
      reads_same = l ∙ readers k h;
      writes_same = m ∙ writers k h;
      moves_same = n ∙ movers k h;
    }

apart : (k n : ℕ) → 64 ≤ k → n < 64 → k ≡ n → ⊥
apart k n h l e = absurd (omega arith)

outside : (k : ℕ) → 64 ≤ k → Outside k
unfolding by_computation
outside k h =
    record {
      lda = apart k 1 h (omega arith);
      sta = apart k 2 h (omega arith);
      ada = apart k 3 h (omega arith);
      sba = apart k 4 h (omega arith);
      ana = apart k 5 h (omega arith);
      ora = apart k 6 h (omega arith);
      xra = apart k 7 h (omega arith);
      cnt = apart k 8 h (omega arith);
      aos = apart k 9 h (omega arith);
      ldi = apart k 10 h (omega arith);
      eap = apart k 16 h (omega arith);
      spp = apart k 17 h (omega arith);
      tra = apart k 24 h (omega arith);
      tze = apart k 25 h (omega arith);
      tmi = apart k 26 h (omega arith);
      call = apart k 32 h (omega arith);
      return = apart k 33 h (omega arith);
      ldbr = apart k 40 h (omega arith);
      hlt = apart k 41 h (omega arith);
      rcu = apart k 42 h (omega arith);
    }

-- from 64 on there is none
pub no_entry_law : (k : ℕ) (e : Entry) → 64 ≤ k → e.operand ≡ false → e.privileged ≡ false → e.reads ≡ false → e.writes ≡ false → e.moves ≡ false → Told k e
unfolding of_entry by_computation
no_entry_law k e h a b c d f =
    let n = outside_not_decoded k (outside k h) in
    record { operand_same = rw n a; privilege_same = rw n b; reads_same = rw n c; writes_same = rw n d; moves_same = rw n f }

pub ruleset entries = (entry_law, no_entry_law)
