-- What performing an instruction answers. Assumes nothing: these are definitions.
use Rattle.std.specs.Prelude.{◌≡◌, ◌||◌, not, cond, ℕ, eqb, length}
use Rattle.std.proofs.Math.Option.{Option, none, some}
use Rattle.model.specs.Words as Words
use Rattle.model.specs.Words.{instruction_in}
use Rattle.model.specs.Registers as Registers
use Rattle.model.specs.Opcodes.{Opcode, decoded}
use Rattle.model.specs.Program.{Program, fail}
use Rattle.dispatch.specs.Plain.{plainly}
use Rattle.words.specs.declared.descriptor.Descriptor.{Descriptor}
use Rattle.state.specs.View.{Becomes}
use Rattle.state.specs.declared.Core.{Core}
use Rattle.state.specs.declared.After.{After}
use Rattle.state.specs.declared.End.TheVariants.{Halted}

-- once TPR is formed: 32 and 33, and what the opcode does there in a plain step
unfoldable pub dispatched : (size : ℕ) → Registers.Registers → Words.Instruction → Option Opcode → Words.Pointer → Program
dispatched n r i none t = fail 32 r.ipr
dispatched n r i (some o) t = cond (not o.privileged || eqb r.ipr.ring 0) (plainly n o.access i r t) (fail 33 r.ipr)

-- of an instruction word
abbrev pub dispatched_in : Registers.Machine → (word : ℕ) → Words.Pointer → Program
dispatched_in m w t = dispatched (length m.memory) m.registers (instruction_in w) (decoded (instruction_in w).opcode) t

-- HLT's answer
pub record Halts (c : Core) (code : Descriptor) (x : After) : Type 0 where
  pub halted : x.end ≡ Halted
  pub code_same : x.code ≡ code
  pub core_same : Becomes c Registers.advanced x.core
