-- A worked instance of demand 3: document 01's case 12, whatever quantity stands in the formula's word. Assumes nothing: these are definitions.
use Rattle.std.specs.Prelude.{List, ℕ, set}
use Rattle.model.specs.Registers.{Delivery}
use Rattle.model.specs.Cases.{case_12_registers, case_12}
use Rattle.secrecy.specs.Statement.{Alike}

-- ring 4 loads 7, calls ring 1's gate in segment 5, and is refused the store into segment 3, rings 1 1 1, whose first word is word 32
unfoldable pub memory_with : (quantity : ℕ) → List ℕ
memory_with q = set case_12.memory 32 q

-- whatever the quantity, the budget and the delivery, the laboratory's stretch is the same
abbrev pub FormulaStaysSecret : Type 0
FormulaStaysSecret = (v : Delivery) (b p q : ℕ) → Alike v 4 b case_12_registers (memory_with p) (memory_with q)
