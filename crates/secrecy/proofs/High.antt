-- The machine's step in ring n or above is a program that asks from ring n up: a line an access. Assumes nothing.
use mathlib.Core.Path.{refl}
use mathlib.Core.Bool.{Bool, not, ◌||◌}
use mathlib.Core.Option.{Option, none, some}
use Prim.Native.Nat.{ℕ, zero, suc, ◌≤◌}
use native.Mathlib.Omega.{arith}
use lib.Dec.{eqb}
use borrow.Author.Tests.{ne_eqb}
use Rattle.model.specs.Words.{Pointer, Instruction, instruction_in}
use Rattle.model.specs.Registers.{Registers, with_a, with_ipr, with_prs, with_pr, advanced}
use Rattle.model.specs.Opcodes.{Access, sets, reads, writes, updates, transfers, calls, returns, loads_dbr, ends_run, restores, Opcode}
use Rattle.model.specs.Questions.{fetch_questions, read_questions, write_questions}
use Rattle.model.specs.Program.{Program}
use Rattle.model.specs.Step.{chain, with_operand, called, returned, load, store, update, transfer, check_call, call, return, load_dbr, perform, obey, step_program}
use Rattle.model.proofs.BranchLaws.{cond_holds, or_left, or_right, not_or_false}
use Rattle.model.proofs.QuestionLaws.{fetch_bracket, read_bracket, write_bracket}
use Rattle.model.proofs.TableLaws.{IfThere, decoded_has}
use Rattle.model.proofs.UnprivilegedLaws.{UnprivilegedAccess, IfUnprivileged, unprivileged_accesses}
use Rattle.model.proofs.AddressLaws.{first_address_ring, next_address_ring}
use Rattle.secrecy.proofs.Secret.{MayRead, MayWrite, High}

module _ (n : ℕ) where
  -- 21, 22 and 23
  pub fetch_may_read : (t : Pointer) → n ≤ t.ring → MayRead n (fetch_questions t)
  unfolding MayRead
  fetch_may_read t h d e = let x = fetch_bracket t d e in (or_right d.read _ x.0, omega arith)

  pub read_may_read : (t : Pointer) → n ≤ t.ring → MayRead n (read_questions t)
  unfolding MayRead
  read_may_read t h d e = let x = read_bracket t d e in (or_left _ d.execute x.0, omega arith)

  pub write_may_write : (t : Pointer) → n ≤ t.ring → MayWrite n (write_questions t)
  unfolding MayWrite
  write_may_write t h d e = let x = write_bracket t d e in (x.0, omega arith)

  module _ (r : Registers) where
    pub high_chain : (f : Pointer → Program) → ((t : Pointer) → n ≤ t.ring → High n r.dbr (f t)) →
        (left : ℕ) (i : Bool) (t : Pointer) → n ≤ t.ring → High n r.dbr (chain left i t f)
    unfolding chain High
    high_chain f g zero i t h = cond_holds (High n r.dbr) i (λ _. tt) (λ _. g t h)
    high_chain f g (suc l) i t h =
        cond_holds (High n r.dbr) i (λ _. (read_may_read t h, λ d w e. high_chain f g l _ _ (next_address_ring n t d w h))) (λ _. g t h)

    pub high_perform : (size : ℕ) (o : Opcode) (k : Access) → UnprivilegedAccess o k → (i : Instruction) (t : Pointer) → n ≤ t.ring → High n r.dbr (perform size k i r t)
    unfolding load store update transfer check_call call return load_dbr perform High UnprivilegedAccess advanced with_a with_ipr with_prs with_pr called returned
    high_perform size o (sets f) u i t h = (u i t r).0
    high_perform size o (reads f) u i t h = (read_may_read t h, λ d w e. refl)
    high_perform size o (writes f) u i t h = (write_may_write t h, refl)
    high_perform size o (updates f) u i t h = (read_may_read t h, λ d w e. (write_may_write t h, refl))
    high_perform size o (transfers f) u i t h = cond_holds (High n r.dbr) (f r.a) (λ _ d e. refl) (λ _. refl)
    high_perform size o calls u i t h = λ d e. refl
    high_perform size o returns u i t h = λ d e. refl
    high_perform size o loads_dbr u i t h = absurd u
    high_perform size o ends_run u i t h = absurd u
    high_perform size o restores u i t h = absurd u

    pub high_with_operand : (o : Opcode) (i : Instruction) (f : Pointer → Program) → n ≤ r.ipr.ring →
        ((t : Pointer) → n ≤ t.ring → High n r.dbr (f t)) → High n r.dbr (with_operand o i r f)
    unfolding with_operand
    high_with_operand o i f h g =
        cond_holds (High n r.dbr) o.operand (λ _. high_chain f g 64 _ _ (first_address_ring n i r h)) (λ _. g r.ipr h)

    -- 33 keeps LDBR, HLT and RCU to ring 0
    pub high_obey : (size : ℕ) (i : Instruction) (o : Option Opcode) → IfThere IfUnprivileged o → 1 ≤ n → n ≤ r.ipr.ring →
        High n r.dbr (obey size r i o)
    unfolding obey High IfUnprivileged
    high_obey size i none u one h = tt
    high_obey size i (some o) u one h =
        cond_holds (High n r.dbr) (not o.privileged || eqb r.ipr.ring 0)
        (λ e.
        let may = u (not_or_false _ _ e (ne_eqb r.ipr.ring 0 (λ q. omega arith))) in
        high_with_operand o i (perform size o.access i r) h (high_perform size o o.access may i)) (λ _. tt)

    pub high_step : (size : ℕ) → 1 ≤ n → n ≤ r.ipr.ring → High n r.dbr (step_program size r)
    unfolding step_program High
    high_step size one h = (
      fetch_may_read r.ipr h,
      λ d w e. high_obey size (instruction_in w) _ (decoded_has IfUnprivileged (instruction_in w).opcode unprivileged_accesses) one h,
    )
