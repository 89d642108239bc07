-- A step by which the ring falls goes through a gate, a line an access; so in a run, but for delivered faults; and no PR's ring falls below IPR's. Assumes nothing.
use mathlib.Core.Path.{◌≡◌, refl, sym, ◌∙◌, ap, subst}
use mathlib.Core.Bool.{Bool, true, false, not, ◌||◌, true≢false}
use mathlib.Core.Logic.{◌⊎◌, inl, inr}
use mathlib.Core.Option.{Option, none, some}
use Prim.Native.Nat.{ℕ, zero, suc, ◌≤◌, ◌<◌}
use native.Mathlib.Nat.{le_refl}
use native.Mathlib.Omega.{arith}
use lib.Dec.{eqb}
use lib.ListN.{length}
use borrow.Author.Tests.{ltb-true, leb-true, ne_eqb}
use Rattle.model.specs.Words.{Pointer}
use Rattle.model.specs.Registers.{Delivery, Machine, machine, with_a, with_ipr, with_prs, moved_by, advanced}
use Rattle.model.specs.Opcodes.{Access, sets, reads, writes, updates, transfers, calls, returns, loads_dbr, ends_run, restores, Opcode, CALL, decoded}
use Rattle.model.specs.Questions.{fetch_questions, read_questions, transfer_questions, new_ring, call_questions}
use Rattle.model.specs.Program.{Program, fail, Outcome, faults, completes, halts, descriptor_of, use_answer, execute}
use Rattle.model.specs.Step.{first_address, chain, with_operand, called, returned, load, store, update, transfer, check_call, call, return, perform, obey, step_program, step}
use Rattle.model.specs.Deliver.{delivers, saved, step_with, is_delivered}
use Rattle.model.specs.Run.{after}
use Rattle.model.proofs.BranchLaws.{cond_holds, not_or_false}
use Rattle.model.proofs.QuestionLaws.{ask_yes, fetch_bracket, transfer_keeps_ring}
use Rattle.model.proofs.TableLaws.{IfThere, decoded_has, decoded_has_number}
use Rattle.model.proofs.UnprivilegedLaws.{UnprivilegedAccess, IfUnprivileged, unprivileged_accesses}
use Rattle.model.proofs.ProgramLaws.{UsePasses, answer_passes, or_fault_yes}
use Rattle.model.proofs.PreconditionLaws.{Precondition, LeftHas, precondition_law}
use Rattle.model.proofs.AddressLaws.{first_address_ring, next_address_ring}
use Rattle.model.proofs.SoundLaws.{passing_fits}
use Rattle.model.proofs.DeliverLaws.{on_delivery}
use Rattle.model.proofs.RunLaws.{Onward, stays, steps, after_onward}
use Rattle.model.proofs.CountLaws.{after_passes}
use Rattle.gates.specs.Falling.{ring_of, instruction_at, Forms, FormsOne, ThroughGate, StepFallsThroughGate, ThroughFault, OnlyGatesLeadDown, PrsNotBelow}

pub forms_one : FormsOne
unfolding execute
forms_one m t u f g = let same : faults 0 t ≡ faults 0 u = sym (f (fail 0)) ∙ g (fail 0) in cc

module _ (m : Machine) where
  -- of what a step leaves: the ring falls only through a gate
  abbrev FallsThroughGate : Machine → Type 0
  FallsThroughGate k = ring_of k < ring_of m → ThroughGate m k

  not_below : (k : Machine) → ring_of m ≤ ring_of k → FallsThroughGate k
  not_below k l h = absurd (omega arith)

  -- THE ADDRESS: what the chain leads to from here is what the instruction forms
  abbrev Leads : (left : ℕ) → Bool → Pointer → Type 0
  Leads l i t =
      (f : Pointer → Program) →
      execute m (chain 64 (instruction_at m).i (first_address (instruction_at m) m.registers) f) ≡ execute m (chain l i t f)

  chain_falls : (f : Pointer → Program) →
      ((t : Pointer) → Forms m t → ring_of m ≤ t.ring → Precondition m FallsThroughGate (f t)) →
      (left : ℕ) (i : Bool) (t : Pointer) → Leads left i t → ring_of m ≤ t.ring → Precondition m FallsThroughGate (chain left i t f)
  unfolding chain Precondition execute
  chain_falls f k zero true t leads g = tt
  chain_falls f k zero false t leads g = k t leads g
  chain_falls f k (suc l) true t leads g =
      λ q. chain_falls f k l _ _ (λ h. leads h ∙ or_fault_yes (use_answer m t (read_questions t)) t _ q) (next_address_ring (ring_of m) t _ _ g)
  chain_falls f k (suc l) false t leads g = k t leads g

  record Operand (o : Opcode) (t : Pointer) : Type 0 where
    formed : o.operand ≡ true → Forms m t
    ring_at_least : ring_of m ≤ t.ring

  operand_falls : (o : Opcode) (f : Pointer → Program) → ((t : Pointer) → Operand o t → Precondition m FallsThroughGate (f t)) →
      Precondition m FallsThroughGate (with_operand o (instruction_at m) m.registers f)
  unfolding with_operand
  operand_falls o f k =
      cond_holds (Precondition m FallsThroughGate) o.operand
      (λ _.
      chain_falls f (λ t forms g. k t record { formed = λ _. forms; ring_at_least = g }) 64 _ _ (λ h. refl)
      (first_address_ring (ring_of m) (instruction_at m) m.registers (le_refl (ring_of m))))
      (λ without. k m.registers.ipr record { formed = λ e. absurd (true≢false (sym e ∙ without)); ring_at_least = le_refl (ring_of m) })

  module _ (fetched : use_answer m m.registers.ipr (fetch_questions m.registers.ipr) ≡ 0) where
    -- 21: the ring is within the bracket of its own segment, so that a lower R2 is another's
    r2_of_another : (s : ℕ) → (descriptor_of m s).r2 < ring_of m → s ≡ m.registers.ipr.segment → ⊥
    r2_of_another s h e =
        let x = (fetch_bracket _ _ (answer_passes m m.registers.ipr (fetch_questions m.registers.ipr) fetched).1).1 in
        let y = ap (λ s. (descriptor_of m s).r2) e in
        omega arith

    -- CALL, whose questions pass, to a lower ring
    call_goes_through_gate : (t : Pointer) → (instruction_at m).opcode ≡ CALL.number → Forms m t → ring_of m ≤ t.ring →
        use_answer m t (call_questions m.registers.ipr t) ≡ 0 →
        FallsThroughGate (machine (called (new_ring t (descriptor_of m t.segment)) t m.registers) m.memory)
    unfolding machine called with_ipr new_ring call_questions UsePasses
    call_goes_through_gate t is_call forms g q h =
        let passed = answer_passes m t (call_questions m.registers.ipr t) q in
        let yes_26 = ask_yes _ _ _ passed.1 in
        let yes_27 = ask_yes _ _ _ yes_26.1 in
        let yes_28 = ask_yes _ _ _ yes_27.1 in
        let above : (descriptor_of m t.segment).r2 < ring_of m = omega arith in
        let another = r2_of_another t.segment above in
        let gate = rw (ne_eqb t.segment m.registers.ipr.segment another) at yes_27.0 in
        let extension = yes_28.0 in
        let ring_is_r2 : new_ring t (descriptor_of m t.segment) ≡ (descriptor_of m t.segment).r2 = omega arith in
        record {
          target = t;
          is_call = is_call;
          forms = forms;
          another_segment = another;
          target_passes = passed.0;
          execute_on = yes_26.0;
          below_gate = omega (arith, ltb-true);
          above_r2 = above;
          ring_at_least = g;
          within_r3 = omega (arith, leb-true);
          enters = λ j. record { ring = ring_is_r2 j; segment = t.segment; word = t.word };
        }

    perform_falls : (size : ℕ) (o : Opcode) → (instruction_at m).opcode ≡ o.number → (k : Access) → UnprivilegedAccess o k →
        (t : Pointer) → Operand o t → Precondition m FallsThroughGate (perform size k (instruction_at m) m.registers t)
    unfolding perform load store update transfer check_call call return returned CALL Precondition UnprivilegedAccess machine advanced moved_by with_a with_ipr with_prs
    perform_falls size o e (sets f) u t g = not_below _ (let x = ap (λ (p : Pointer). p.ring) (u (instruction_at m) t m.registers).1 in omega arith)
    perform_falls size o e (reads f) u t g = λ q. not_below _ (le_refl (ring_of m))
    perform_falls size o e (writes f) u t g = λ q. not_below _ (le_refl (ring_of m))
    perform_falls size o e (updates f) u t g = λ q p. not_below _ (le_refl (ring_of m))
    perform_falls size o e (transfers f) u t g =
        cond_holds (Precondition m FallsThroughGate) (f m.registers.a)
        (λ _ q.
        let x = transfer_keeps_ring _ _ _ (answer_passes m t (transfer_questions m.registers.ipr t) q).1 in
        not_below _ (omega arith)) (λ _. not_below _ (le_refl (ring_of m)))
    perform_falls size o e calls u t g =
        λ q. call_goes_through_gate t (e ∙ ap (λ (x : Opcode). x.number) u) (g.formed (ap (λ (x : Opcode). x.operand) u)) g.ring_at_least q
    perform_falls size o e returns u t g = λ q. not_below _ g.ring_at_least
    perform_falls size o e loads_dbr u t g = absurd u
    perform_falls size o e ends_run u t g = absurd u
    perform_falls size o e restores u t g = absurd u

    -- 33 keeps RCU to ring 0
    obey_falls : (size : ℕ) (o : Option Opcode) → 1 ≤ ring_of m → IfThere (λ x. (instruction_at m).opcode ≡ x.number) o → IfThere IfUnprivileged o →
        Precondition m FallsThroughGate (obey size m.registers (instruction_at m) o)
    unfolding obey Precondition IfUnprivileged
    obey_falls size none one e u = tt
    obey_falls size (some o) one e u =
        cond_holds (Precondition m FallsThroughGate) (not o.privileged || eqb (ring_of m) 0)
        (λ p.
        let may = u (not_or_false _ _ p (ne_eqb (ring_of m) 0 (λ z. omega arith))) in
        operand_falls o _ (λ t g. perform_falls size o e o.access may t g)) (λ _. tt)

  step_precondition : (size : ℕ) → 1 ≤ ring_of m → Precondition m FallsThroughGate (step_program size m.registers)
  unfolding step_program Precondition
  step_precondition size one =
      λ fetched.
      obey_falls fetched size (decoded (instruction_at m).opcode) one (decoded_has_number (instruction_at m).opcode)
      (decoded_has IfUnprivileged (instruction_at m).opcode unprivileged_accesses)

  step_left_falls : 1 ≤ ring_of m → LeftHas m FallsThroughGate (step m)
  unfolding step
  step_left_falls one = precondition_law m FallsThroughGate (step_program (length m.memory) m.registers) (step_precondition (length m.memory) one)

pub step_falls_through_gate : StepFallsThroughGate
step_falls_through_gate m k (inl e) h = subst (LeftHas m (FallsThroughGate m)) e (step_left_falls m (omega arith)) h
step_falls_through_gate m k (inr e) h = subst (LeftHas m (FallsThroughGate m)) e (step_left_falls m (omega arith)) h

module _ (v : Delivery) where
  -- THE STEP WITH DELIVERY
  abbrev Falls : Machine → Outcome → Type 0
  Falls m x = (k : Machine) → (x ≡ completes k) ⊎ (x ≡ halts k) → ring_of k < ring_of m → ThroughFault v m k ⊎ ThroughGate m k

  fault_leads_to_handler : (m : Machine) (n : ℕ) (t : Pointer) → step m ≡ faults n t → delivers v m ≡ true → Falls m (completes (saved v n t m))
  unfolding is_delivered saved machine with_ipr
  fault_leads_to_handler m n t e d k (inl q) h =
      let same : saved v n t m ≡ k = cc in
      inl record { delivered = rw e d; enters = ap (λ (x : Machine). x.registers.ipr) (sym same) }
  fault_leads_to_handler m n t e d k (inr q) h = absurd (let z : ◌≡◌ {A = ℕ} 0 1 = cc in omega arith)

  step_falls : (m : Machine) → Falls m (step_with v m)
  unfolding step_with
  step_falls m = on_delivery (Falls m) v m (step m) (λ k o h. inr (step_falls_through_gate m k o h)) (λ n t e d. fault_leads_to_handler m n t e d)

  -- THE RUN
  onward_falls : {m k : Machine} → Onward v m k → ring_of k < ring_of m → ThroughFault v m k ⊎ ThroughGate m k
  onward_falls stays h = absurd (omega arith)
  onward_falls {m} {k} (steps o) h = step_falls m k o h

pub only_gates_lead_down : OnlyGatesLeadDown
only_gates_lead_down v j m h = onward_falls v (after_onward v j m) h

pub prs_not_below : PrsNotBelow
prs_not_below v j m e = (passing_fits {W = λ _. Unit {0}} {C = λ _. Unit {0}} v (after v j m) (after_passes v j m e) tt tt).pointers_fit.rings_kept
