-- `judge::segment_answer` meets its contract. Assumes nothing.
use Rattle.tables.proofs.JudgeLaws.{no_own_row, another_row, no_other_row}
use Rattle.std.proofs.lemmas.List.{take_rest}
use Rattle.tables.specs.declared.row.Row.{Row}
use Rattle.tables.proofs.judge.segment_answer.Goals as goal

-- any row, to look one up by
none : Row
none = record { first = 0; last = 0; r1 = 0; r2 = 0; r3 = 0; read = 0; write = 0; execute = 0 }

pub returns-in_default : goal.returns-in_default
returns-in_default c = no_own_row _ _ c.in_default.ensures

pub returns-in-None : goal.returns-in-None
returns-in-None c = no_other_row _ _ c.in-Some.own none c.in-Some.ensures (rw take_rest at c.in-None.ensures)

pub returns-in-Some-next_row : goal.returns-in-Some-next_row
returns-in-Some-next_row c = another_row _ _ c.in-Some.own none c.in-Some.ensures _ (rw take_rest at c.in-Some-next_row.ensures)
