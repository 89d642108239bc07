-- Statements on pointer words counted (02, L2): how many a step reads, a run's total, and a single step's count. Assumes nothing: these are definitions.
use Rattle.std.specs.Prelude.{◌≡◌, false, ℕ, suc, ◌+◌, ◌*◌, ◌≤◌}
use Rattle.std.proofs.Math.Option.{some}
use Rattle.model.specs.Words.{Pointer, Instruction, instruction_in}
use Rattle.model.specs.Registers.{Delivery, Machine}
use Rattle.model.specs.Opcodes.{Opcode, decoded}
use Rattle.model.specs.Questions.{fetch_questions}
use Rattle.model.specs.Program.{faults, word_at, use_answer}
use Rattle.model.specs.Step.{step, pointer_words}
use Rattle.model.specs.Run.{spent, run, after, total, fault_count, single_count}
use Rattle.model.specs.Answers.{reply_numbers}

-- 31 lets no step read more
abbrev pub PointerWordsWithin : Type 0
PointerWordsWithin = (m : Machine) → pointer_words m ≤ 64

-- and faults after just so many
abbrev pub Fault31After64 : Type 0
Fault31After64 = (m : Machine) (t : Pointer) → step m ≡ faults 31 t → pointer_words m ≡ 64

-- A STEP READS NONE where its fetch faults
abbrev pub FetchFaultReadsNone : Type 0
FetchFaultReadsNone =
    (n : ℕ) (m : Machine) → use_answer m m.registers.ipr (fetch_questions m.registers.ipr) ≡ suc n → pointer_words m ≡ 0

-- where it faults by 32 or 33
abbrev pub Fault3233ReadsNone : Type 0
Fault3233ReadsNone = (n : ℕ) (m : Machine) (t : Pointer) → 32 ≤ n → n ≤ 33 → step m ≡ faults n t → pointer_words m ≡ 0

-- where its instruction has I off, or an opcode without an operand
abbrev pub fetched : Machine → Instruction
fetched m = instruction_in (word_at m m.registers.ipr)

abbrev pub DirectReadsNone : Type 0
DirectReadsNone = (m : Machine) → (fetched m).i ≡ false → pointer_words m ≡ 0

abbrev pub NoOperandReadsNone : Type 0
NoOperandReadsNone = (m : Machine) (o : Opcode) → decoded (fetched m).opcode ≡ some o → o.operand ≡ false → pointer_words m ≡ 0

-- A RUN'S TOTAL has at most 64 for each completed step, and a faulting step isn't among them unless its fault is delivered
abbrev pub TotalWithin : Type 0
TotalWithin = (v : Delivery) (b : ℕ) (m : Machine) → total v b m ≤ 64 * (reply_numbers (run v b m).reply).count

-- the total of j + k steps is that of j and, where that run spent its budget, that of k from what it left
abbrev pub TotalContinues : Type 0
TotalContinues =
    (v : Delivery) (j k : ℕ) (m : Machine) → (run v j m).reply ≡ spent j → total v (j + k) m ≡ total v j m + total v k (after v j m)

-- the step at which a run faults reads at most 64 too
abbrev pub FaultCountWithin : Type 0
FaultCountWithin = (v : Delivery) (b : ℕ) (m : Machine) → fault_count v b m ≤ 64

-- A SINGLE STEP'S count is what the run with budget 1 reads, in its completed step or its faulting one
abbrev pub SingleCountOfRun : Type 0
SingleCountOfRun = (v : Delivery) (m : Machine) → single_count v m ≡ total v 1 m + fault_count v 1 m
