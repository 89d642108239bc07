use Rattle.std.proofs.Common.{◌≡◌, ◌-◌}
use Rattle.model.specs.Brackets.{segments_questions}
use Rattle.tables.specs.View.{as_rows}
use Rattle.tables.proofs.judge.segments_answer.Given as goal

abbrev pub invariant-loop-segment : goal.invariant-loop-segment
invariant-loop-segment l = segments_questions (l.segments - l.segment) l.segment (as_rows l.rows) ≡ segments_questions l.segments 0 (as_rows l.rows)
