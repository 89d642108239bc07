use Rattle.std.proofs.Common.{◌≡◌, ◌-◌}
use Rattle.model.specs.Brackets.{with_rows}
use Rattle.tables.specs.View.{as_rows}
use Rattle.tables.proofs.put.put_rows.Given as goal

abbrev pub invariant-loop-segment : goal.invariant-loop-segment
invariant-loop-segment l = with_rows (l.segments - l.segment) l.segment (as_rows l.rows) l.address l.memory ≡ with_rows l.segments 0 (as_rows l.rows) l.address l.initial.memory
