-- `put_last_digit` meets its contract. Assumes nothing.
use borrow.Author.Rules.{rules}
use Rattle.lines.proofs.LineLaws.{step_line_laws}
use Rattle.lines.proofs.put_last_digit.Goals as goal

pub returns : goal.returns
returns c = search (rules, step_line_laws)
