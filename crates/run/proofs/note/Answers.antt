-- `note` meets its contract. Assumes nothing.
use Rattle.std.proofs.Common.{rules}
use Rattle.run.proofs.TraceLaws.{notes}
use Rattle.run.proofs.note.Goals as goal

pub overflow_add-trace : goal.overflow_add-trace
overflow_add-trace c = search (rules, notes)

pub returns-then-i-trace : goal.returns-then-i-trace
returns-then-i-trace c = search (rules, notes)
