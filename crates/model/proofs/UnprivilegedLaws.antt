-- What an opcode that isn't privileged may do: a line an opcode. Assumes nothing.
use mathlib.Core.Path.{◌≡◌, refl}
use mathlib.Core.Bool.{false, true≢false}
use Rattle.model.specs.Words.{Pointer, Instruction}
use Rattle.model.specs.Registers.{Registers, with_a, with_prs, with_pr}
use Rattle.model.specs.Opcodes.{Access, sets, reads, writes, updates, transfers, calls, returns, loads_dbr, ends_run, restores, Opcode, LDA, STA, ADA, SBA, ANA, ORA, XRA, CNT, AOS, LDI, EAP, SPP, TRA, TZE, TMI, CALL, RETURN, LDBR, HLT, RCU}
use Rattle.model.proofs.TableLaws.{Each}

-- any access but DBR's load, the run's end and a frame's restoring; one that sets registers keeps DBR and IPR; and only CALL calls
unfoldable pub UnprivilegedAccess : Opcode → Access → Type 0
UnprivilegedAccess o (sets f) = (i : Instruction) (t : Pointer) (r : Registers) → (r.dbr ≡ (f i t r).dbr) × (r.ipr ≡ (f i t r).ipr)
UnprivilegedAccess o (reads f) = Unit {0}
UnprivilegedAccess o (writes f) = Unit {0}
UnprivilegedAccess o (updates f) = Unit {0}
UnprivilegedAccess o (transfers f) = Unit {0}
UnprivilegedAccess o calls = o ≡ CALL
UnprivilegedAccess o returns = Unit {0}
UnprivilegedAccess o loads_dbr = ⊥
UnprivilegedAccess o ends_run = ⊥
UnprivilegedAccess o restores = ⊥

unfoldable pub IfUnprivileged : Opcode → Type 0
IfUnprivileged o = o.privileged ≡ false → UnprivilegedAccess o o.access

-- LDBR, HLT and RCU are privileged
pub unprivileged_accesses : Each IfUnprivileged
unfolding IfUnprivileged UnprivilegedAccess LDA STA ADA SBA ANA ORA XRA CNT AOS LDI EAP SPP TRA TZE TMI CALL RETURN LDBR HLT RCU with_a with_pr with_prs
unprivileged_accesses =
    record {
      lda = λ u. tt;
      sta = λ u. tt;
      ada = λ u. tt;
      sba = λ u. tt;
      ana = λ u. tt;
      ora = λ u. tt;
      xra = λ u. tt;
      cnt = λ u. tt;
      aos = λ u. tt;
      ldi = λ u i t r. (refl, refl);
      eap = λ u i t r. (refl, refl);
      spp = λ u. tt;
      tra = λ u. tt;
      tze = λ u. tt;
      tmi = λ u. tt;
      call = λ u. refl;
      return = λ u. tt;
      ldbr = λ u. true≢false u;
      hlt = λ u. true≢false u;
      rcu = λ u. true≢false u;
    }
