-- A step of the model halts where 03's test says so. Assumes nothing.
use mathlib.Core.Path.{◌≡◌, refl, ◌∙◌, ap₂}
use mathlib.Core.List.{List}
use mathlib.Core.Bool.{Bool, true, false, ◌&&◌, ◌||◌, not, cond, true≢false}
use Prim.Native.Nat.{ℕ, zero, suc}
use lib.Dec.{leb, eqb, eqb-suc-zero}
use lib.ListN.{length}
use Rattle.model.specs.Words.{Pointer, instruction_in}
use Rattle.model.specs.Registers.{Dbr, Registers, Machine, dbr_in}
use Rattle.model.specs.Opcodes.{Access, sets, reads, writes, updates, transfers, calls, returns, loads_dbr, ends_run, restores, decoded, LDA, STA, ADA, SBA, ANA, ORA, XRA, CNT, AOS, EAP, SPP, TRA, TZE, TMI, CALL, RETURN, LDBR, RCU}
use Rattle.model.specs.Questions.{ask, rings_at_least, dbr_fits, may_execute, fetch_questions}
use Rattle.model.specs.Program.{Outcome, Program, fail, execute, word_at, descriptor_of, or_fault}
use Rattle.model.specs.Step.{first_address, chain, load, store, update, transfer, check_call, call, return, if_dbr_fits, load_dbr, read_words, take_up, restore, perform, obey, step_program, step}
use Rattle.model.proofs.TableLaws.{Each}
use Rattle.model.proofs.Computing.{by_computation}
use Rattle.model.proofs.BranchLaws.{cond_holds}
use Rattle.reference.specs.Machine as Machine03
use Rattle.reference.specs.Step as Step03
use Rattle.reference.specs.View as View
use Rattle.reference.specs.Equal.{HaltEqual}
use Rattle.reference.proofs.Uses.{words_opened, answer_equal}
use Rattle.reference.proofs.OpcodeCases.{opcode_cases}

or_fault_halts : (k : ℕ) (t : Pointer) (x : Outcome) → View.is_halt (or_fault k t x) ≡ (eqb k 0 && View.is_halt x)
unfolding or_fault View.is_halt
or_fault_halts zero t x = refl
or_fault_halts (suc k) t x = rw (eqb-suc-zero k) refl

or_fault_never : (k : ℕ) (t : Pointer) (x : Outcome) → View.is_halt x ≡ false → View.is_halt (or_fault k t x) ≡ false
unfolding or_fault View.is_halt
or_fault_never zero t x e = e
or_fault_never (suc k) t x e = refl

-- an operand's access goes on
unfoldable ends : Access → Bool
ends (sets f) = false
ends (reads f) = false
ends (writes f) = false
ends (updates f) = false
ends (transfers f) = false
ends calls = false
ends returns = false
ends loads_dbr = false
ends ends_run = true
ends restores = false

module _ (m : Machine) (w : ℕ) where
  -- LDBR and RCU, whose 34 and 52 are branches
  fits_never : (b : Dbr) (t : Pointer) (p : Program) → View.is_halt (execute m p) ≡ false →
      View.is_halt (execute m (if_dbr_fits (length m.memory) b t p)) ≡ false
  unfolding if_dbr_fits execute View.is_halt
  fits_never b t p h = cond_holds (λ p. View.is_halt (execute m p) ≡ false) (dbr_fits (length m.memory) b) (λ _. h) (λ _. refl)

  words_never : (n : ℕ) (t : Pointer) (f : List ℕ → Program) → ((ws : List ℕ) → View.is_halt (execute m (f ws)) ≡ false) →
      View.is_halt (execute m (read_words n t f)) ≡ false
  unfolding read_words execute
  words_never zero t f h = h _
  words_never (suc n) t f h = or_fault_never _ t _ (words_never n _ _ (λ ws. h _))

  taken_never : (t : Pointer) (r : Registers) → View.is_halt (execute m (take_up (length m.memory) t r)) ≡ false
  unfolding take_up execute View.is_halt
  taken_never t r =
      fits_never r.dbr t _ (cond_holds (λ p. View.is_halt (execute m p) ≡ false) (rings_at_least r.ipr.ring r.prs) (λ _. refl) (λ _. refl))

  perform_never : (k : Access) (t : Pointer) → ends k ≡ false →
      View.is_halt (execute m (perform (length m.memory) k (instruction_in w) m.registers t)) ≡ false
  unfolding ends load store update transfer check_call call return load_dbr restore perform execute View.is_halt
  perform_never (sets f) t e = refl
  perform_never (reads f) t e = or_fault_never _ t _ refl
  perform_never (writes f) t e = or_fault_never _ t _ refl
  perform_never (updates f) t e = or_fault_never _ t _ (or_fault_never _ t _ refl)
  perform_never (transfers f) t e =
      cond_holds (λ p. View.is_halt (execute m p) ≡ false) (f m.registers.a) (λ _. or_fault_never _ t _ refl) (λ _. refl)
  perform_never calls t e = or_fault_never _ t _ refl
  perform_never returns t e = or_fault_never _ t _ refl
  perform_never loads_dbr t e = or_fault_never _ t _ (fits_never (dbr_in (word_at m t)) t _ refl)
  perform_never ends_run t e = absurd (true≢false e)
  perform_never restores t e = or_fault_never _ t _ (words_never 13 t _ (λ ws. taken_never t _))

  chain_never : (f : Pointer → Program) → ((t : Pointer) → View.is_halt (execute m (f t)) ≡ false) → (left : ℕ) (i : Bool) (t : Pointer) →
      View.is_halt (execute m (chain left i t f)) ≡ false
  unfolding chain execute View.is_halt
  chain_never f h zero i t = cond_holds (λ p. View.is_halt (execute m p) ≡ false) i (λ _. refl) (λ _. h t)
  chain_never f h (suc left) i t =
      cond_holds (λ p. View.is_halt (execute m p) ≡ false) i (λ _. or_fault_never _ t _ (chain_never f h left _ _)) (λ _. h t)

  operand_never : (k : Access) → ends k ≡ false →
      View.is_halt
      (execute m
      (chain 64 (instruction_in w).i (first_address (instruction_in w) m.registers) (perform (length m.memory) k (instruction_in w) m.registers)))
      ≡ false
  operand_never k e =
      chain_never (perform (length m.memory) k (instruction_in w) m.registers) (λ t. perform_never k t e) 64 (instruction_in w).i (first_address (instruction_in w) m.registers)

  -- 32 and 33
  unfoldable opcode_refusal : (opcode : ℕ) → ℕ
  opcode_refusal o = cond (not (Step03.known o)) 32 (cond (Step03.privileged o && not (eqb m.registers.ipr.ring 0)) 33 0)

  unfoldable HaltsAs : (opcode : ℕ) → Type 0
  HaltsAs o =
      View.is_halt (execute m (obey (length m.memory) m.registers (instruction_in w) (decoded o))) ≡ (eqb (opcode_refusal o) 0 && eqb o 41)

  privileged_halts : (b : Bool) (p : Program) (x : Bool) → View.is_halt (execute m p) ≡ x →
      View.is_halt (execute m (cond (false || b) p (fail 33 m.registers.ipr))) ≡ (eqb (cond (true && not b) 33 0) 0 && x)
  unfolding execute View.is_halt
  privileged_halts true p x e = e
  privileged_halts false p x e = refl

  opcodes_halt : Each (λ o. HaltsAs o.number)
  unfolding by_computation ends HaltsAs opcode_refusal View.is_halt Step03.known Step03.privileged
  opcodes_halt =
      record {
        lda = operand_never LDA.access refl;
        sta = operand_never STA.access refl;
        ada = operand_never ADA.access refl;
        sba = operand_never SBA.access refl;
        ana = operand_never ANA.access refl;
        ora = operand_never ORA.access refl;
        xra = operand_never XRA.access refl;
        cnt = operand_never CNT.access refl;
        aos = operand_never AOS.access refl;
        ldi = refl;
        eap = operand_never EAP.access refl;
        spp = operand_never SPP.access refl;
        tra = operand_never TRA.access refl;
        tze = operand_never TZE.access refl;
        tmi = operand_never TMI.access refl;
        call = operand_never CALL.access refl;
        return = operand_never RETURN.access refl;
        ldbr = privileged_halts (eqb m.registers.ipr.ring 0) _ false (operand_never LDBR.access refl);
        hlt = privileged_halts (eqb m.registers.ipr.ring 0) _ true refl;
        rcu = privileged_halts (eqb m.registers.ipr.ring 0) _ false (operand_never RCU.access refl);
      }

  halts_as : (o : ℕ) → HaltsAs o
  unfolding HaltsAs opcode_refusal obey execute View.is_halt
  halts_as = opcode_cases HaltsAs opcodes_halt (λ o unknown outside. rw (unknown, outside) refl)

-- 03's list of a fetch, asked at once and part by part
fetched_parts : (u : ℕ) (e : Bool) (c : ℕ) (h : Bool) →
    (eqb (cond (not (eqb u 0)) u (ask e 21 0)) 0 && (eqb c 0 && h)) ≡ (eqb (cond (not (eqb u 0)) u (cond (not e) 21 c)) 0 && h)
unfolding ask
fetched_parts zero true c h = refl
fetched_parts zero false c h = refl
fetched_parts (suc u) e c h = rw (eqb-suc-zero u, eqb-suc-zero u) refl

pub halt_equal : HaltEqual
unfolding words_opened step step_program execute fetch_questions may_execute instruction_in HaltsAs opcode_refusal Step03.is_halt Step03.fetch_refusal
halt_equal m =
    let p = m.registers.ipr in
    let d = descriptor_of m p.segment in
    let w = word_at m p in
    let o = Machine03.field 24 8 w in
    let u = Machine03.use_refusal (View.regs m.registers) m.memory (View.place p) in
    or_fault_halts _ p _ ∙ ap₂ (λ k h. eqb k 0 && h) (answer_equal m p (fetch_questions p)) (halts_as m w o)
    ∙ fetched_parts u (d.execute && (leb d.r1 p.ring && leb p.ring d.r2)) (opcode_refusal m w o) (eqb o 41)
