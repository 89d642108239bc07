-- `put_step_line` meets its contract. Assumes nothing.
use borrow.Author.Rules.{rules}
use Rattle.lines.proofs.KeptLaws.{kept_line_laws}
use Rattle.lines.proofs.put_step_line.Goals as goal

pub returns : goal.returns
returns c = search (rules, kept_line_laws)
