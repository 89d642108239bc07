-- Statements on delivered faults (02, L4): when one is delivered and what it leaves, the switch off, and a frame put back. Assumes nothing: these are definitions.
use Rattle.std.specs.Prelude.{◌≡◌, true, false, ◌⊎◌, ℕ, ◌+◌, ◌≤◌, ◌<◌, length, get_or}
use Rattle.model.specs.Words.{Pointer}
use Rattle.model.specs.Registers.{Registers, Delivery, no_delivery, Machine, machine, with_ipr}
use Rattle.model.specs.Questions.{segment_questions, read_questions, delivery_in_range, start_questions}
use Rattle.model.specs.Program.{faults, completes, halts, descriptor_of, execute}
use Rattle.model.specs.Step.{registers_in, restore, step}
use Rattle.model.specs.Deliver.{frame, delivers, step_with}
use Rattle.model.specs.Run.{run, trace}

-- WHEN: the switch is on, the save segment passes 11 to 14 through DBR as it stands, has thirteen words or more, and W on
pub record CanDeliver (v : Delivery) (m : Machine) : Type 0 where
  pub switch_on : v.switch ≡ 1
  pub segment_passes : segment_questions (length m.memory) m.registers.dbr v.save (descriptor_of m v.save) ≡ 0
  pub long_enough : 13 ≤ (descriptor_of m v.save).length
  pub write_on : (descriptor_of m v.save).write ≡ true

abbrev pub DeliversWhen : Type 0
DeliversWhen = (v : Delivery) (m : Machine) → (delivers v m ≡ true → CanDeliver v m) × (CanDeliver v m → delivers v m ≡ true)

-- WHAT IT LEAVES: IPR at the handler, every other register as before the step, the thirteen words of the frame, and every other word of memory
pub record Delivered (v : Delivery) (number : ℕ) (t : Pointer) (m k : Machine) : Type 0 where
  pub registers_same : k.registers ≡ with_ipr (record { ring = 0; segment = v.handler; word = 0 }) m.registers
  pub frame_written : (i : ℕ) → i < 13 → get_or k.memory ((descriptor_of m v.save).address + i) 0 ≡ get_or (frame number t m.registers) i 0
  pub others_same : (x : ℕ) → (x < (descriptor_of m v.save).address) ⊎ ((descriptor_of m v.save).address + 13 ≤ x) →
      get_or k.memory x 0 ≡ get_or m.memory x 0
  pub size_same : length k.memory ≡ length m.memory

-- every fault of every machine with eight PRs: delivered, a completed step that leaves just that; or else what it was
pub data EndsWith (v : Delivery) (number : ℕ) (t : Pointer) (m : Machine) : Type 0 where
  with_delivery : {k : Machine} → delivers v m ≡ true → step_with v m ≡ completes k → Delivered v number t m k → EndsWith v number t m
  without_delivery : delivers v m ≡ false → step_with v m ≡ faults number t → EndsWith v number t m

abbrev pub FaultEnds : Type 0
FaultEnds =
    (v : Delivery) (number : ℕ) (t : Pointer) (m : Machine) → length m.registers.prs ≡ 8 → step m ≡ faults number t → EndsWith v number t m

-- a step that doesn't fault is the plain one
abbrev pub CompletesAsPlain : Type 0
CompletesAsPlain =
    (v : Delivery) (m k : Machine) → (step m ≡ completes k → step_with v m ≡ completes k) × (step m ≡ halts k → step_with v m ≡ halts k)

-- WITH THE SWITCH OFF it is the machine without delivery, on every input; where it cannot save, step by step
abbrev pub OffAsPlain : Type 0
OffAsPlain =
    (v : Delivery) (b : ℕ) (m : Machine) → v.switch ≡ 0 → delivery_in_range v ≡ true → (run v b m ≡ run no_delivery b m) × (trace v b m ≡ trace no_delivery b m)

abbrev pub UnsavedAsPlain : Type 0
UnsavedAsPlain = (v : Delivery) (m : Machine) → delivers v m ≡ false → step_with v m ≡ step m

-- A FRAME holds the registers that it was made of
abbrev pub FrameHolds : Type 0
FrameHolds =
    (v : Delivery) (number : ℕ) (t : Pointer) (m : Machine) → start_questions v m ≡ 0 → length m.registers.prs ≡ 8 →
    registers_in (frame number t m.registers) ≡ m.registers

-- and where it was just written, RCU takes them up again, unless the frame has overwritten the save segment's own descriptor
abbrev pub Restores : Type 0
Restores =
    (v : Delivery) (number : ℕ) (t p : Pointer) (m k : Machine) → start_questions v m ≡ 0 → length m.registers.prs ≡ 8 → delivers v m ≡ true →
    Delivered v number t m k → descriptor_of k v.save ≡ descriptor_of m v.save → p.segment ≡ v.save → p.word ≡ 0 →
    read_questions p (descriptor_of k v.save) ≡ 0 → execute k (restore (length k.memory) p) ≡ completes (machine m.registers k.memory)
