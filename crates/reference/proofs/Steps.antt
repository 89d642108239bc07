-- One step of the model is 03's. Assumes nothing.
use mathlib.Core.Path.{◌≡◌, refl, sym, ◌∙◌, ap, ap₂}
use mathlib.Core.Bool.{Bool, true, false, ◌&&◌, ◌||◌, not, cond}
use Prim.Native.Nat.{ℕ, zero, suc, ◌+◌, ◌*◌, ◌-◌, ◌/◌, ◌%◌}
use lib.Dec.{leb, eqb, eqb-suc-zero}
use lib.ListN.{length, set}
use Rattle.model.specs.Words.{on, Pointer, pointer_word, Instruction, instruction_in}
use Rattle.model.specs.Registers.{Registers, Machine, pr}
use Rattle.model.specs.Opcodes.{Access, bitwise, count_of_ones, sum, difference, decoded, LDA, STA, ADA, SBA, ANA, ORA, XRA, CNT, AOS, EAP, SPP, TRA, TZE, TMI, CALL, RETURN, LDBR, RCU}
use Rattle.model.specs.Questions.{ask, may_execute, fetch_questions}
use Rattle.model.specs.Program.{Program, fail, execute, word_at, absolute_address, descriptor_of}
use Rattle.model.specs.Step.{first_address, chain, call, return, perform, obey, step_program, step}
use Rattle.model.proofs.TableLaws.{Each}
use Rattle.model.proofs.Computing.{by_computation}
use Rattle.reference.specs.Machine as Machine03
use Rattle.reference.specs.Step as Step03
use Rattle.reference.specs.View as View
use Rattle.reference.specs.Equal.{StepEqual}
use Rattle.reference.proofs.Uses.{words_opened, answer_equal, or_fault_view}
use Rattle.reference.proofs.Address.{pr_view, first_address_view, landed, chain_view}
use Rattle.reference.proofs.Performs.{registers_opened, with_pr_view, or_fault_then, reads_view, writes_view, updates_view, transfers_view, calls_view, returns_view, loads_dbr_view, restores_view}
use Rattle.reference.proofs.OpcodeCases.{opcode_cases}

-- A'S OPERATIONS
bits_equal : (n : ℕ) (f : ℕ → ℕ → ℕ) (a b : ℕ) → bitwise n f a b ≡ Step03.bits n f a b
unfolding bitwise Step03.bits
bits_equal zero f a b = refl
bits_equal (suc n) f a b = ap (λ x. f (a % 2) (b % 2) + 2 * x) (bits_equal n f (a / 2) (b / 2))

ones_equal : (n w : ℕ) → count_of_ones n w ≡ Step03.ones n w
unfolding count_of_ones Step03.ones
ones_equal zero w = refl
ones_equal (suc n) w = ap (λ x. w % 2 + x) (ones_equal n (w / 2))

or_false : (b : Bool) (x y : Step03.Stepped) → cond b x y ≡ cond (b || false) x y
or_false true x y = refl
or_false false x y = refl

module _ (m : Machine) (w : ℕ) where
  -- an operand's address is formed, and the opcode's access done there
  operand_view : (o : ℕ) (k : Access) →
      ((t : Pointer) → View.outcome (execute m (perform (length m.memory) k (instruction_in w) m.registers t)) ≡ Step03.performed o w (View.machine m) (View.place t)) →
      View.outcome
      (execute m
      (chain 64 (on 20 w) (first_address (instruction_in w) m.registers) (perform (length m.memory) k (instruction_in w) m.registers)))
      ≡ Step03.at_address o w (View.machine m) (Step03.effective w (View.machine m))
  unfolding words_opened Step03.effective Step03.at_address landed
  operand_view o k h =
      let g = Step03.performed o w (View.machine m) in
      chain_view m (perform (length m.memory) k (instruction_in w) m.registers) g h 64 (on 20 w) (first_address (instruction_in w) m.registers)
      ∙ ap (λ p. landed g (Step03.through 64 (on 20 w) (View.machine m) p)) (first_address_view w m.registers) ∙ at (Step03.effective w (View.machine m))
    where
      at : (x : Step03.Address) → landed (Step03.performed o w (View.machine m)) x ≡ Step03.at_address o w (View.machine m) x
      at (Step03.bad n t) = refl
      at (Step03.good t) = refl

  -- what 03 does once 21 has a yes
  unfoldable obeyed : (opcode : ℕ) → Step03.Stepped
  obeyed o =
      let r = View.regs m.registers in
      Step03.or_fault (cond (not (Step03.known o)) 32 (cond (Step03.privileged o && not (eqb r.ipr.ring 0)) 33 0)) r.ipr
      (cond (eqb o 10) (Step03.on_with (Step03.with_a (Machine03.field 32 32 w) r) m.memory)
      (cond (eqb o 41) (Step03.on_with r m.memory) (Step03.at_address o w (View.machine m) (Step03.effective w (View.machine m)))))

  unfoldable Obeys : (opcode : ℕ) → Type 0
  Obeys o = View.outcome (execute m (obey (length m.memory) m.registers (instruction_in w) (decoded o))) ≡ obeyed o

  -- one opcode on both sides, opened together
  unfoldable opcodes_opened : Unit {0}
  unfolding by_computation registers_opened Obeys obeyed View.outcome Step03.known Step03.privileged Step03.or_fault Step03.is_read Step03.jumps Step03.worked Step03.read_refusal Step03.performed Step03.pointer_word
  opcodes_opened = tt

  reads_as : (t : Pointer) (f : ℕ → ℕ → ℕ) (x : ℕ) → f m.registers.a (word_at m t) ≡ x →
      View.outcome (execute m (perform (length m.memory) (Access.reads f) (instruction_in w) m.registers t))
      ≡ Step03.or_fault (Step03.pointer_refusal (View.machine m) (View.place t)) (View.place t)
      (Step03.on_with (Step03.with_a x (View.regs m.registers)) m.memory)
  reads_as t f x e =
      reads_view m (instruction_in w) t f
      ∙ ap (λ y. Step03.or_fault (Step03.pointer_refusal (View.machine m) (View.place t)) (View.place t) (Step03.on_with (Step03.with_a y (View.regs m.registers)) m.memory)) e

  writes_as : (t : Pointer) (f : Instruction → Registers → ℕ) (x : ℕ) → f (instruction_in w) m.registers ≡ x →
      View.outcome (execute m (perform (length m.memory) (Access.writes f) (instruction_in w) m.registers t))
      ≡ Step03.or_fault (Step03.write_refusal (View.machine m) (View.place t)) (View.place t)
      (Step03.on_with (View.regs m.registers) (set m.memory (absolute_address m t) x))
  writes_as t f x e =
      writes_view m (instruction_in w) t f
      ∙ ap (λ y. Step03.or_fault (Step03.write_refusal (View.machine m) (View.place t)) (View.place t) (Step03.on_with (View.regs m.registers) (set m.memory (absolute_address m t) y))) e

  privileged_view : (b : Bool) (p : Program) (x : Step03.Stepped) → View.outcome (execute m p) ≡ x →
      View.outcome (execute m (cond (false || b) p (fail 33 m.registers.ipr)))
      ≡ Step03.or_fault (cond (true && not b) 33 0) (View.place m.registers.ipr) x
  unfolding execute View.outcome Step03.or_fault
  privileged_view true p x e = e
  privileged_view false p x e = refl

  opcodes_obey : Each (λ o. Obeys o.number)
  unfolding opcodes_opened
  opcodes_obey =
      let i = instruction_in w in
      let r = m.registers in
      record {
        lda = operand_view 1 LDA.access (λ t. reads_view m i t (λ a v. v));
        sta = operand_view 2 STA.access (λ t. writes_view m i t (λ j q. q.a));
        ada = operand_view 3 ADA.access (λ t. reads_view m i t sum);
        sba = operand_view 4 SBA.access (λ t. reads_view m i t difference);
        ana = operand_view 5 ANA.access (λ t. reads_as t (bitwise 64 (λ x y. x * y)) _ (bits_equal 64 _ r.a (word_at m t)));
        ora = operand_view 6 ORA.access (λ t. reads_as t (bitwise 64 (λ x y. x + y - x * y)) _ (bits_equal 64 _ r.a (word_at m t)));
        xra = operand_view 7 XRA.access (λ t. reads_as t (bitwise 64 (λ x y. (x + y) % 2)) _ (bits_equal 64 _ r.a (word_at m t)));
        cnt = operand_view 8 CNT.access (λ t. reads_as t (λ a v. count_of_ones 64 v) _ (ones_equal 64 (word_at m t)));
        aos = operand_view 9 AOS.access (λ t. updates_view m i t (λ v. sum v 1));
        ldi = refl;
        eap = operand_view 16 EAP.access (λ t. ap (λ (q : Machine03.Regs). Step03.on_with q m.memory) (with_pr_view i.reg t r));
        spp = operand_view 17 SPP.access (λ t. writes_as t (λ j q. pointer_word (pr q j.reg)) _ (ap Step03.pointer_word (pr_view r i.reg)));
        tra = operand_view 24 TRA.access (λ t. transfers_view m i t (λ a. true));
        tze = operand_view 25 TZE.access (λ t. transfers_view m i t (λ a. eqb a 0) ∙ or_false (eqb r.a 0) _ _);
        tmi = operand_view 26 TMI.access (λ t. transfers_view m i t (λ a. leb 9223372036854775808 a));
        call = operand_view 32 CALL.access (λ t. calls_view m i t);
        return = operand_view 33 RETURN.access (λ t. returns_view m i t);
        ldbr = privileged_view (eqb r.ipr.ring 0) _ _ (operand_view 40 LDBR.access (λ t. loads_dbr_view m i t));
        hlt = privileged_view (eqb r.ipr.ring 0) _ _ refl;
        rcu = privileged_view (eqb r.ipr.ring 0) _ _ (operand_view 42 RCU.access (λ t. restores_view m i t));
      }

  obeys : (o : ℕ) → Obeys o
  unfolding opcodes_opened
  obeys = opcode_cases Obeys opcodes_obey (λ o unknown outside. rw (unknown, outside) refl)

-- FETCH: 03 asks 21, 32 and 33 in one list
fault_or : (k : ℕ) (t : Machine03.Place) (x : Step03.Stepped) → cond (not (eqb k 0)) (Step03.fault k t) x ≡ Step03.or_fault k t x
unfolding Step03.or_fault
fault_or zero t x = refl
fault_or (suc k) t x = rw (eqb-suc-zero k)

fetched_then : (b : Bool) (c : ℕ) (t : Machine03.Place) (x : Step03.Stepped) →
    Step03.or_fault (ask b 21 0) t (Step03.or_fault c t x) ≡ Step03.or_fault (cond (not b) 21 c) t x
unfolding ask Step03.or_fault
fetched_then true c t x = refl
fetched_then false c t x = refl

pub step_equal : StepEqual
unfolding words_opened step step_program execute fetch_questions may_execute instruction_in Obeys obeyed Step03.step Step03.fetch_refusal
step_equal m =
    let p = View.place m.registers.ipr in
    let d = descriptor_of m m.registers.ipr.segment in
    let w = word_at m m.registers.ipr in
    let o = Machine03.field 24 8 w in
    let u = Machine03.use_refusal (View.regs m.registers) m.memory p in
    let e = d.execute && (leb d.r1 p.ring && leb p.ring d.r2) in
    let c : ℕ = cond (not (Step03.known o)) 32 (cond (Step03.privileged o && not (eqb p.ring 0)) 33 0) in
    or_fault_view _ m.registers.ipr _
    ∙ ap₂ (λ k x. Step03.or_fault k p x) (answer_equal m m.registers.ipr (fetch_questions m.registers.ipr)) (obeys m w o)
    ∙ or_fault_then u (ask e 21 0) p _ ∙ ap (λ x. Step03.or_fault u p x) (fetched_then e c p _)
    ∙ sym (fault_or (Step03.fetch_refusal (View.machine m)) p _ ∙ or_fault_then u (cond (not e) 21 c) p _)
