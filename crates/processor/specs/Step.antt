-- What forming an instruction answers. Assumes nothing: these are definitions.
use Rattle.std.specs.Prelude.{◌≡◌, ℕ, length, Option, Some, None, Result, Ok, Err}
use Rattle.model.specs.Words.{instruction_in}
use Rattle.model.specs.Registers as Registers
use Rattle.model.specs.Opcodes.{decoded}
use Rattle.model.specs.Program.{Program, execute, faults, ticks}
use Rattle.model.specs.Step.{pointer_words}
use Rattle.words.specs.View.{as_pointer, PointerWithin}
use Rattle.words.specs.declared.pointer.Pointer.{Pointer}
use Rattle.questions.specs.Numbers.{fault_number}
use Rattle.segments.specs.Translation.{CodeRight}
use Rattle.dispatch.specs.Plain.{obey_plainly, plain_step}
use Rattle.dispatch.specs.Dispatch.{dispatched_in}
use Rattle.addressing.specs.declared.Address.{Address}
use Rattle.addressing.specs.declared.AddressFault.{AddressFault}
use Rattle.processor.specs.declared.Instruction.{Instruction}
use Rattle.processor.specs.declared.Formed.{Formed}

abbrev pub obeyed_in : Registers.Machine → (word : ℕ) → Program
obeyed_in m w = obey_plainly (length m.memory) m.registers (instruction_in w) (decoded (instruction_in w).opcode)

-- TPR of a fetched instruction, or its fault
abbrev pub OperandFormed : Registers.Machine → (word : ℕ) → Result Address AddressFault → Type 0
OperandFormed m w (Err f) = (execute m (obeyed_in m w) ≡ faults (fault_number f.fault) (as_pointer f.pointer)) × (ticks m (obeyed_in m w) ≡ f.read)
OperandFormed m w (Ok a) =
    (execute m (obeyed_in m w) ≡ execute m (dispatched_in m w (as_pointer a.pointer))) × (ticks m (obeyed_in m w) ≡ a.read) × PointerWithin a.pointer

-- the plain step is what the instruction word does at the pointer, and has read so many pointer words
pub record ReadyToPerform (m : Registers.Machine) (word : ℕ) (t : Pointer) (count : ℕ) : Type 0 where
  pub step_same : plain_step m ≡ execute m (dispatched_in m word (as_pointer t))
  pub counted : pointer_words m ≡ count
  pub within : PointerWithin t

abbrev pub formed : Registers.Machine → Result Formed AddressFault → Type 0
formed m (Err f) = (plain_step m ≡ faults (fault_number f.fault) (as_pointer f.pointer)) × (pointer_words m ≡ f.read)
formed m (Ok x) = ReadyToPerform m x.instruction.word x.instruction.pointer x.read × CodeRight x.code.0 m.registers.ipr.ring (length m.memory)

abbrev pub QuicklyFormed : Registers.Machine → Option Instruction → Type 0
QuicklyFormed m None = Unit {0}
QuicklyFormed m (Some i) = ReadyToPerform m i.word i.pointer 0
