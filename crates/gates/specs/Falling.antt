-- 02, L10: wherever the ring falls in a run, a CALL went through a gate; and no PR's ring is below IPR's. Assumes nothing: these are definitions.
use Rattle.std.specs.Prelude.{◌≡◌, true, ◌⊎◌, ℕ, suc, ◌≤◌, ◌<◌, length}
use Rattle.model.specs.Words.{Pointer, Instruction, instruction_in}
use Rattle.model.specs.Registers.{Delivery, Machine}
use Rattle.model.specs.Opcodes.{CALL}
use Rattle.model.specs.Questions.{rings_at_least, start_questions, use_questions}
use Rattle.model.specs.Program.{Program, completes, halts, descriptor_of, word_at, execute}
use Rattle.model.specs.Step.{first_address, chain, step}
use Rattle.model.specs.Deliver.{is_delivered}
use Rattle.model.specs.Run.{after}

-- IPR's ring, and the instruction at IPR
abbrev pub ring_of : Machine → ℕ
ring_of m = m.registers.ipr.ring

abbrev pub instruction_at : Machine → Instruction
instruction_at m = instruction_in (word_at m m.registers.ipr)

-- t is TPR: whatever is done with the address that this instruction forms is done with t
abbrev pub Forms : Machine → Pointer → Type 0
Forms m t =
    (f : Pointer → Program) →
    execute m (chain 64 (instruction_at m).i (first_address (instruction_at m) m.registers) f) ≡ execute m (f t)

-- there is one such t at most
abbrev pub FormsOne : Type 0
FormsOne = (m : Machine) (t u : Pointer) → Forms m t → Forms m u → t ≡ u

-- A STEP THROUGH A GATE, from m to k. The descriptor is the one at that moment
pub record ThroughGate (m k : Machine) : Type 0 where
  pub target : Pointer
  -- a CALL to the target, from another segment
  pub is_call : (instruction_at m).opcode ≡ CALL.number
  pub forms : Forms m target
  pub another_segment : target.segment ≡ m.registers.ipr.segment → ⊥
  -- which passes 11 to 15 and has E on, to a word below GATE
  pub target_passes : use_questions (length m.memory) m.registers.dbr target (descriptor_of m target.segment) ≡ 0
  pub execute_on : (descriptor_of m target.segment).execute ≡ true
  pub below_gate : target.word < (descriptor_of m target.segment).gate
  -- from within the gate extension, R2+1 to R3: IPR's ring, and TPR's
  pub above_r2 : (descriptor_of m target.segment).r2 < ring_of m
  pub ring_at_least : ring_of m ≤ target.ring
  pub within_r3 : target.ring ≤ (descriptor_of m target.segment).r3
  -- into ring R2, at the target
  pub enters : k.registers.ipr ≡ record { ring = (descriptor_of m target.segment).r2; segment = target.segment; word = target.word }

-- wherever the ring falls by a step, its fault not delivered. RCU is no exception: it is privileged, and below ring 0 is none
abbrev pub StepFallsThroughGate : Type 0
StepFallsThroughGate = (m k : Machine) → (step m ≡ completes k) ⊎ (step m ≡ halts k) → ring_of k < ring_of m → ThroughGate m k

-- A FAULT DELIVERED leads to the handler in ring 0, and nowhere else
pub record ThroughFault (v : Delivery) (m k : Machine) : Type 0 where
  pub delivered : is_delivered v m (step m) ≡ true
  pub enters : k.registers.ipr ≡ record { ring = 0; segment = v.handler; word = 0 }

-- IN A RUN of any length, wherever the ring is lower after a step than before it; a run that is refused or has ended stays where it is
abbrev pub OnlyGatesLeadDown : Type 0
OnlyGatesLeadDown =
    (v : Delivery) (j : ℕ) (m : Machine) → ring_of (after v (suc j) m) < ring_of (after v j m) →
    ThroughFault v (after v j m) (after v (suc j) m) ⊎ ThroughGate (after v j m) (after v (suc j) m)

-- AFTER EVERY STEP no PR's ring is below IPR's, delivered faults and RCU included
abbrev pub PrsNotBelow : Type 0
PrsNotBelow = (v : Delivery) (j : ℕ) (m : Machine) → start_questions v m ≡ 0 → rings_at_least (ring_of (after v j m)) (after v j m).registers.prs ≡ true
