-- A PLAIN STEP is the step but for RCU, which the loop of a run doesn't perform: once 33 has passed and its operand is formed, it stops the run there, as a fault numbered 0, which no question has. Assumes nothing: these are definitions.
use Rattle.std.specs.Prelude.{◌||◌, not, cond, ℕ, zero, suc, eqb, length}
use Rattle.std.proofs.Math.Option.{Option, none, some}
use Rattle.model.specs.Words.{Pointer, Instruction, instruction_in}
use Rattle.model.specs.Registers.{Registers, Machine}
use Rattle.model.specs.Opcodes.{Access, sets, reads, writes, updates, transfers, calls, returns, loads_dbr, ends_run, restores, Opcode, decoded}
use Rattle.model.specs.Questions.{fetch_questions}
use Rattle.model.specs.Program.{Program, fail, read, Outcome, execute}
use Rattle.model.specs.Step.{with_operand, restore, perform}

unfoldable pub plainly : (size : ℕ) → Access → Instruction → Registers → Pointer → Program
plainly n (sets f) i r t = perform n (sets f) i r t
plainly n (reads f) i r t = perform n (reads f) i r t
plainly n (writes f) i r t = perform n (writes f) i r t
plainly n (updates f) i r t = perform n (updates f) i r t
plainly n (transfers f) i r t = perform n (transfers f) i r t
plainly n calls i r t = perform n calls i r t
plainly n returns i r t = perform n returns i r t
plainly n loads_dbr i r t = perform n loads_dbr i r t
plainly n ends_run i r t = perform n ends_run i r t
plainly n restores i r t = fail 0 t

unfoldable pub obey_plainly : (size : ℕ) → Registers → Instruction → Option Opcode → Program
obey_plainly n r i none = fail 32 r.ipr
obey_plainly n r i (some o) =
    cond (not o.privileged || eqb r.ipr.ring 0) (with_operand o i r (plainly n o.access i r)) (fail 33 r.ipr)

unfoldable pub plain_program : (size : ℕ) → Registers → Program
plain_program n r =
    read (fetch_questions r.ipr) r.ipr (λ d w. obey_plainly n r (instruction_in w) (decoded (instruction_in w).opcode))

unfoldable pub plain_step : Machine → Outcome
plain_step m = execute m (plain_program (length m.memory) m.registers)

-- what is left to do of a step that stopped: RCU, or the fault
unfoldable pub stopped : (size number : ℕ) → Pointer → Program
stopped n zero t = restore n t
stopped n (suc k) t = fail (suc k) t
