-- What the code's table says of an opcode: its entry in the model's table. Assumes nothing: these are definitions.
use Rattle.std.specs.Prelude.{◌≡◌, ℕ, ◌+◌, ◌-◌, ◌*◌, ◌%◌, Bool, true, false, cond, ◌==◌, nat_le}
use Rattle.std.proofs.Math.Option.{Option, none, some}
use Rattle.model.specs.Opcodes.{Access, sets, reads, writes, updates, transfers, calls, returns, loads_dbr, ends_run, restores, Opcode, sum, difference, bitwise, count_of_ones, decoded}
use Rattle.opcodes.specs.declared.table.Entry.{Entry}

-- A after a read, by the opcode's number
unfoldable pub operation_result : (opcode a word : ℕ) → ℕ
operation_result o a w =
    cond (o == 1) w
    (cond (o == 3) (sum a w)
    (cond (o == 4) (difference a w)
    (cond (o == 5) (bitwise 64 (λ x y. x * y) a w)
    (cond (o == 6) (bitwise 64 (λ x y. x + y - x * y) a w) (cond (o == 7) (bitwise 64 (λ x y. (x + y) % 2) a w) (count_of_ones 64 w))))))

-- whether a transfer is taken, by its number
unfoldable pub taken : (opcode a : ℕ) → Bool
taken o a = cond (o == 24) true (cond (o == 25) (a == 0) (nat_le 9223372036854775808 a))

-- THE COLUMNS: what holds of an opcode's entry, and of a number without one not
unfoldable pub of_entry : (Opcode → Bool) → Option Opcode → Bool
of_entry f none = false
of_entry f (some o) = f o

abbrev pub reads_word : Access → Bool
reads_word (sets f) = false
reads_word (reads f) = true
reads_word (writes f) = false
reads_word (updates f) = true
reads_word (transfers f) = false
reads_word calls = false
reads_word returns = false
reads_word loads_dbr = true
reads_word ends_run = false
reads_word restores = true

abbrev pub writes_word : Access → Bool
writes_word (sets f) = false
writes_word (reads f) = false
writes_word (writes f) = true
writes_word (updates f) = true
writes_word (transfers f) = false
writes_word calls = false
writes_word returns = false
writes_word loads_dbr = false
writes_word ends_run = false
writes_word restores = false

abbrev pub moves_control : Access → Bool
moves_control (sets f) = false
moves_control (reads f) = false
moves_control (writes f) = false
moves_control (updates f) = false
moves_control (transfers f) = true
moves_control calls = true
moves_control returns = true
moves_control loads_dbr = false
moves_control ends_run = false
moves_control restores = true

-- an entry as the model's
pub record Told (opcode : ℕ) (e : Entry) : Type 0 where
  pub operand_same : e.operand ≡ of_entry (λ o. o.operand) (decoded opcode)
  pub privilege_same : e.privileged ≡ of_entry (λ o. o.privileged) (decoded opcode)
  pub reads_same : e.reads ≡ of_entry (λ o. reads_word o.access) (decoded opcode)
  pub writes_same : e.writes ≡ of_entry (λ o. writes_word o.access) (decoded opcode)
  pub moves_same : e.moves ≡ of_entry (λ o. moves_control o.access) (decoded opcode)
