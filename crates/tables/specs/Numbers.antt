-- The number of each question of a table, and what an answer comes to as a number: 0 is a yes to all. Assumes nothing: these are definitions.
use Rattle.std.specs.Prelude.{ℕ, Result, Ok, Err}
use Rattle.tables.specs.declared.error.TableError.{TableError}

abbrev pub table_number : TableError → ℕ
table_number TableError.MemoryTooLarge = 1
table_number TableError.BaseOutsideMemory = 4
table_number TableError.RowsUnfit = 53
table_number TableError.SegmentInNoRow = 54
table_number TableError.SegmentInSeveralRows = 55

abbrev pub answer_number : {A : Type 0} → Result A TableError → ℕ
answer_number (Ok _) = 0
answer_number (Err e) = table_number e
