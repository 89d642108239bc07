-- The arms of the dispatch agree with the table, entry by entry. Assumes nothing.
use mathlib.Core.Path.{◌≡◌, refl, sym, ◌∙◌, ap, subst}
use mathlib.Core.Bool.{Bool, true, false, not, ◌||◌, cond}
use mathlib.Core.List.{List, []}
use mathlib.Core.Option.{some}
use Prim.Native.Nat.{ℕ}
use lib.Dec.{eqb}
use lib.ListN.{length}
use borrow.Author.Tests.{eq-eqb, ne_eqb}
use Rattle.model.specs.Words.{Pointer, pointer_word, Instruction, instruction_in}
use Rattle.model.specs.Registers.{Registers, machine, with_a, with_pr, with_ipr, moved_by, advanced}
use Rattle.model.specs.Opcodes.{reads, transfers, Opcode, unprivileged, sum, decoded, STA, AOS, LDI, EAP, SPP, CALL, RETURN, LDBR, HLT, RCU}
use Rattle.model.specs.Program.{Program, fail, halt, execute, faults, halts}
use Rattle.model.specs.Step as Step
use Rattle.model.proofs.Computing.{by_computation}
use Rattle.model.proofs.TableLaws.{Outside, outside_not_decoded}
use Rattle.words.specs.View.{as_pointer}
use Rattle.words.specs.declared.descriptor.Descriptor.{Descriptor}
use Rattle.words.specs.declared.pointer.Pointer as Code
use Rattle.opcodes.specs.Table.{operation_result, taken}
use Rattle.state.specs.View.{as_pointers, pr_of, registers_with, machine_with, ended, Does, DoesWithAnyPrs, Finishes, FinishesWithAnyPrs, faulted_after}
use Rattle.state.specs.declared.Core.{Core}
use Rattle.state.specs.declared.After.{After}
use Rattle.state.proofs.DoesLaws.{does_fault, does_as, does_finish}
use Rattle.dispatch.specs.Plain.{plainly}
use Rattle.dispatch.specs.Dispatch.{dispatched, dispatched_in, Halts}

or_true : (a : Bool) {b : Bool} → b ≡ true → a || b ≡ true
or_true true e = refl
or_true false e = e

-- HLT completes, and ends the run
halted_does : (c : Core) (d : Descriptor) (ps : List Pointer) (m : List ℕ) (x : After) → Halts c d x → Does c d ps m (halt (advanced (registers_with c ps))) x ps m
unfolding ended execute machine advanced with_ipr moved_by
halted_does c d ps m x h =
    record {
      ends =
          subst (λ z. ended (machine_with c ps m) (halts (record { registers = advanced (registers_with c ps); memory = m })) z (machine_with x.core ps m)) (sym h.halted)
          (ap (λ z. halts (record { registers = z; memory = m })) (sym (h.core_same.registers_same ps)));
      code_kept = λ k. rw (h.code_same, ap (λ (y : Registers). y.ipr.ring) (h.core_same.registers_same [])) k;
    }

-- AN ENTRY'S ARM: 33 is asked where the entry is privileged
module _ (n : ℕ) (r : Registers) (i : Instruction) (t : Pointer) (o : Opcode) (e : decoded i.opcode ≡ some o) where
  dispatched_as : o.privileged ≡ false → dispatched n r i (decoded i.opcode) t ≡ plainly n o.access i r t
  unfolding dispatched
  dispatched_as h = ap (λ d. dispatched n r i d t) e ∙ ap (λ p. cond (not p || eqb r.ipr.ring 0) (plainly n o.access i r t) (fail 33 r.ipr)) h

  dispatched_in_ring_0 : r.ipr.ring ≡ 0 → dispatched n r i (decoded i.opcode) t ≡ plainly n o.access i r t
  unfolding dispatched
  dispatched_in_ring_0 h = ap (λ d. dispatched n r i d t) e ∙ ap (λ b. cond b (plainly n o.access i r t) (fail 33 r.ipr)) (or_true (not o.privileged) (eq-eqb _ _ h))

  dispatched_33 : o.privileged ≡ true → (r.ipr.ring ≡ 0 → ⊥) → dispatched n r i (decoded i.opcode) t ≡ fail 33 r.ipr
  unfolding dispatched
  dispatched_33 h z =
      ap (λ d. dispatched n r i d t) e
      ∙ ap (λ p. cond (not p || eqb r.ipr.ring 0) (plainly n o.access i r t) (fail 33 r.ipr)) h
      ∙ ap (λ b. cond b (plainly n o.access i r t) (fail 33 r.ipr)) (ne_eqb _ _ z)

-- the opcode that an arm's number stands for
decodes_as : (i : Instruction) (v k : ℕ) (o : Opcode) → v ≡ i.opcode → v ≡ k → decoded k ≡ some o → decoded i.opcode ≡ some o
decodes_as i v k o e f g = ap decoded (sym e ∙ f) ∙ g

-- THE ARMS, from what each one's function answers
module _ (c : Core) (d : Descriptor) (ps : List Pointer) (m m_now : List ℕ) (w : ℕ) (t : Pointer) (x : After) (v : ℕ) (e : v ≡ (instruction_in w).opcode) where
  abbrev program : Program
  program = dispatched_in (machine_with c ps m) w t

  as_entry : (ps_now : List Pointer) (o : Opcode) → decoded (instruction_in w).opcode ≡ some o → o.privileged ≡ false →
      Does c d ps m (plainly (length m) o.access (instruction_in w) (registers_with c ps) t) x ps_now m_now → Does c d ps m program x ps_now m_now
  as_entry ps_now o f h k = does_as c d ps m _ x ps_now m_now _ (ap (execute (machine_with c ps m)) (dispatched_as (length m) (registers_with c ps) (instruction_in w) t o f h)) k

  module _ (k : ℕ) (f : v ≡ k) where
    pub load_arm : decoded k ≡ some (unprivileged k (reads (operation_result k))) → DoesWithAnyPrs c d m (λ r. Step.load (operation_result k) r t) x m_now → Does c d ps m program x ps m_now
    unfolding plainly Step.perform
    load_arm g h = as_entry ps _ (decodes_as (instruction_in w) v k _ e f g) refl (h.does ps)

    pub transfer_arm : decoded k ≡ some (unprivileged k (transfers (taken k))) → DoesWithAnyPrs c d m (λ r. Step.transfer (taken k c.a) r t) x m_now → Does c d ps m program x ps m_now
    unfolding plainly Step.perform
    transfer_arm g h = as_entry ps _ (decodes_as (instruction_in w) v k _ e f g) refl (h.does ps)

  pub sta_arm : v ≡ 2 → DoesWithAnyPrs c d m (λ r. Step.store c.a r t) x m_now → Does c d ps m program x ps m_now
  unfolding plainly Step.perform STA by_computation
  sta_arm f h = as_entry ps STA (decodes_as (instruction_in w) v 2 _ e f refl) refl (h.does ps)

  pub aos_arm : v ≡ 9 → DoesWithAnyPrs c d m (λ r. Step.update (λ y. sum y 1) r t) x m_now → Does c d ps m program x ps m_now
  unfolding plainly Step.perform AOS by_computation
  aos_arm f h = as_entry ps AOS (decodes_as (instruction_in w) v 9 _ e f refl) refl (h.does ps)

  pub ldi_arm : v ≡ 10 → FinishesWithAnyPrs c d (with_a (instruction_in w).lit) x → m_now ≡ m → Does c d ps m program x ps m_now
  unfolding plainly Step.perform LDI by_computation
  ldi_arm f h k = as_entry ps LDI (decodes_as (instruction_in w) v 10 _ e f refl) refl (rw k (does_finish c d ps m (with_a (instruction_in w).lit) x ps (h.finishes ps)))

  pub eap_arm : v ≡ 16 → (ps_now : List Pointer) → Finishes c d ps (with_pr (instruction_in w).reg t) x ps_now → m_now ≡ m → Does c d ps m program x ps_now m_now
  unfolding plainly Step.perform EAP by_computation
  eap_arm f ps_now h k = as_entry ps_now EAP (decodes_as (instruction_in w) v 16 _ e f refl) refl (rw k (does_finish c d ps m (with_pr (instruction_in w).reg t) x ps_now h))

  pub call_arm : v ≡ 32 → (ps_now : List Pointer) → Does c d ps m (Step.call (registers_with c ps) t) x ps_now m_now → Does c d ps m program x ps_now m_now
  unfolding plainly Step.perform CALL by_computation
  call_arm f ps_now h = as_entry ps_now CALL (decodes_as (instruction_in w) v 32 _ e f refl) refl h

  pub return_arm : v ≡ 33 → (ps_now : List Pointer) → Does c d ps m (Step.return (registers_with c ps) t) x ps_now m_now → Does c d ps m program x ps_now m_now
  unfolding plainly Step.perform RETURN by_computation
  return_arm f ps_now h = as_entry ps_now RETURN (decodes_as (instruction_in w) v 33 _ e f refl) refl h

-- SPP stores the pointer word of a PR
pub spp_arm : (c : Core) (d : Descriptor) (prs : List ℕ) (m m_now : List ℕ) (w : ℕ) (t : Pointer) (x : After) (v u : ℕ) → v ≡ (instruction_in w).opcode → v ≡ 17 →
    u ≡ pointer_word (pr_of prs (instruction_in w).reg) → DoesWithAnyPrs c d m (λ r. Step.store u r t) x m_now →
    Does c d (as_pointers prs) m (dispatched_in (machine_with c (as_pointers prs) m) w t) x (as_pointers prs) m_now
unfolding plainly Step.perform SPP by_computation pr_of
spp_arm c d prs m m_now w t x v u e f g h =
    as_entry c d (as_pointers prs) m m_now w t x v e (as_pointers prs) SPP (decodes_as (instruction_in w) v 17 _ e f refl) refl
    (does_as c d (as_pointers prs) m _ x (as_pointers prs) m_now _ (rw (← g) refl) (h.does (as_pointers prs)))

-- the numbers that no arm has, as a match leaves them
abbrev pub NoArm : (opcode : ℕ) → Type 0
NoArm v = (((((((((((((((((((Unit {0} × (v ≡ 1 → ⊥)) × (v ≡ 2 → ⊥)) × (v ≡ 3 → ⊥)) × (v ≡ 4 → ⊥)) × (v ≡ 5 → ⊥)) × (v ≡ 6 → ⊥)) × (v ≡ 7 → ⊥)) × (v ≡ 8 → ⊥)) × (v ≡ 9 → ⊥)) × (v ≡ 10 → ⊥)) × (v ≡ 16 → ⊥)) × (v ≡ 17 → ⊥)) × (v ≡ 24 → ⊥)) × (v ≡ 25 → ⊥)) × (v ≡ 26 → ⊥)) × (v ≡ 32 → ⊥)) × (v ≡ 33 → ⊥)) × (v ≡ 40 → ⊥)) × (v ≡ 41 → ⊥)) × (v ≡ 42 → ⊥)

no_arm_outside : (v : ℕ) → NoArm v → Outside v
unfolding by_computation
no_arm_outside v r =
    record {
      lda = r.0.0.0.0.0.0.0.0.0.0.0.0.0.0.0.0.0.0.0.1;
      sta = r.0.0.0.0.0.0.0.0.0.0.0.0.0.0.0.0.0.0.1;
      ada = r.0.0.0.0.0.0.0.0.0.0.0.0.0.0.0.0.0.1;
      sba = r.0.0.0.0.0.0.0.0.0.0.0.0.0.0.0.0.1;
      ana = r.0.0.0.0.0.0.0.0.0.0.0.0.0.0.0.1;
      ora = r.0.0.0.0.0.0.0.0.0.0.0.0.0.0.1;
      xra = r.0.0.0.0.0.0.0.0.0.0.0.0.0.1;
      cnt = r.0.0.0.0.0.0.0.0.0.0.0.0.1;
      aos = r.0.0.0.0.0.0.0.0.0.0.0.1;
      ldi = r.0.0.0.0.0.0.0.0.0.0.1;
      eap = r.0.0.0.0.0.0.0.0.0.1;
      spp = r.0.0.0.0.0.0.0.0.1;
      tra = r.0.0.0.0.0.0.0.1;
      tze = r.0.0.0.0.0.0.1;
      tmi = r.0.0.0.0.0.1;
      call = r.0.0.0.0.1;
      return = r.0.0.0.1;
      ldbr = r.0.0.1;
      hlt = r.0.1;
      rcu = r.1;
    }

-- PRIVILEGED: LDBR, HLT and RCU
module _ (c : Core) (d : Descriptor) (ps : List Pointer) (m : List ℕ) (w : ℕ) (t : Pointer) (x : After) (v : ℕ) (e : v ≡ (instruction_in w).opcode) where
  refuse_33 : (o : Opcode) → decoded (instruction_in w).opcode ≡ some o → o.privileged ≡ true → (c.ipr.ring ≡ 0 → ⊥) → (u : Code.Pointer) → x ≡ faulted_after c d 33 u →
      as_pointer u ≡ as_pointer c.ipr → Does c d ps m (dispatched_in (machine_with c ps m) w t) x ps m
  unfolding execute
  refuse_33 o f h z u g k =
      does_fault c d ps m _ x 33 u g
      (ap (execute (machine_with c ps m)) (dispatched_33 (length m) (registers_with c ps) (instruction_in w) t o f h z) ∙ ap (faults 33) (sym k))

  pub ldbr_refused : v ≡ 40 → (c.ipr.ring ≡ 0 → ⊥) → (u : Code.Pointer) → x ≡ faulted_after c d 33 u → as_pointer u ≡ as_pointer c.ipr → Does c d ps m (dispatched_in (machine_with c ps m) w t) x ps m
  unfolding LDBR by_computation
  ldbr_refused f z u g k = refuse_33 LDBR (decodes_as (instruction_in w) v 40 _ e f refl) refl z u g k

  pub hlt_refused : v ≡ 41 → (c.ipr.ring ≡ 0 → ⊥) → (u : Code.Pointer) → x ≡ faulted_after c d 33 u → as_pointer u ≡ as_pointer c.ipr → Does c d ps m (dispatched_in (machine_with c ps m) w t) x ps m
  unfolding HLT by_computation
  hlt_refused f z u g k = refuse_33 HLT (decodes_as (instruction_in w) v 41 _ e f refl) refl z u g k

  pub ldbr_arm : v ≡ 40 → c.ipr.ring ≡ 0 → DoesWithAnyPrs c d m (λ r. Step.load_dbr (length m) r t) x m → Does c d ps m (dispatched_in (machine_with c ps m) w t) x ps m
  unfolding plainly Step.perform LDBR by_computation
  ldbr_arm f z h =
      does_as c d ps m _ x ps m _
      (ap (execute (machine_with c ps m)) (dispatched_in_ring_0 (length m) (registers_with c ps) (instruction_in w) t LDBR (decodes_as (instruction_in w) v 40 _ e f refl) z)) (h.does ps)

  pub hlt_arm : v ≡ 41 → c.ipr.ring ≡ 0 → Halts c d x → Does c d ps m (dispatched_in (machine_with c ps m) w t) x ps m
  unfolding plainly Step.perform HLT by_computation ended execute machine advanced with_ipr moved_by
  hlt_arm f z h =
      does_as c d ps m _ x ps m _
      (ap (execute (machine_with c ps m)) (dispatched_in_ring_0 (length m) (registers_with c ps) (instruction_in w) t HLT (decodes_as (instruction_in w) v 41 _ e f refl) z))
      (halted_does c d ps m x h)

  pub rcu_refused : v ≡ 42 → (c.ipr.ring ≡ 0 → ⊥) → (u : Code.Pointer) → x ≡ faulted_after c d 33 u → as_pointer u ≡ as_pointer c.ipr → Does c d ps m (dispatched_in (machine_with c ps m) w t) x ps m
  unfolding RCU by_computation
  rcu_refused f z u g k = refuse_33 RCU (decodes_as (instruction_in w) v 42 _ e f refl) refl z u g k

  -- RCU stops there
  pub rcu_arm : v ≡ 42 → c.ipr.ring ≡ 0 → (u : Code.Pointer) → x ≡ faulted_after c d 0 u → as_pointer u ≡ t → Does c d ps m (dispatched_in (machine_with c ps m) w t) x ps m
  unfolding plainly RCU by_computation execute
  rcu_arm f z u g k =
      does_fault c d ps m _ x 0 u g
      (ap (execute (machine_with c ps m)) (dispatched_in_ring_0 (length m) (registers_with c ps) (instruction_in w) t RCU (decodes_as (instruction_in w) v 42 _ e f refl) z) ∙ ap (faults 0) (sym k))

  -- 32: an arm for none of the numbers
  pub unknown_arm : NoArm v → (u : Code.Pointer) → x ≡ faulted_after c d 32 u → as_pointer u ≡ as_pointer c.ipr → Does c d ps m (dispatched_in (machine_with c ps m) w t) x ps m
  unfolding dispatched execute
  unknown_arm out u g k =
      does_fault c d ps m _ x 32 u g
      (ap (λ z. execute (machine_with c ps m) (dispatched (length m) (registers_with c ps) (instruction_in w) z t)) (ap decoded (sym e) ∙ outside_not_decoded v (no_arm_outside v out)) ∙ ap (faults 32) (sym k))

-- THE ENTRIES of the arms that share a law
module _ where
  pub lda_entry : decoded 1 ≡ some (unprivileged 1 (reads (operation_result 1)))
  unfolding operation_result by_computation
  lda_entry = refl

  pub ada_entry : decoded 3 ≡ some (unprivileged 3 (reads (operation_result 3)))
  unfolding operation_result by_computation
  ada_entry = refl

  pub sba_entry : decoded 4 ≡ some (unprivileged 4 (reads (operation_result 4)))
  unfolding operation_result by_computation
  sba_entry = refl

  pub ana_entry : decoded 5 ≡ some (unprivileged 5 (reads (operation_result 5)))
  unfolding operation_result by_computation
  ana_entry = refl

  pub ora_entry : decoded 6 ≡ some (unprivileged 6 (reads (operation_result 6)))
  unfolding operation_result by_computation
  ora_entry = refl

  pub xra_entry : decoded 7 ≡ some (unprivileged 7 (reads (operation_result 7)))
  unfolding operation_result by_computation
  xra_entry = refl

  pub cnt_entry : decoded 8 ≡ some (unprivileged 8 (reads (operation_result 8)))
  unfolding operation_result by_computation
  cnt_entry = refl

  pub tra_entry : decoded 24 ≡ some (unprivileged 24 (transfers (taken 24)))
  unfolding taken by_computation
  tra_entry = refl

  pub tze_entry : decoded 25 ≡ some (unprivileged 25 (transfers (taken 25)))
  unfolding taken by_computation
  tze_entry = refl

  pub tmi_entry : decoded 26 ≡ some (unprivileged 26 (transfers (taken 26)))
  unfolding taken by_computation
  tmi_entry = refl
