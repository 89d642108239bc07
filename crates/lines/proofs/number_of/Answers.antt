-- `number_of` meets its contract. Assumes nothing.
use borrow.Author.Rules.{rules}
use Rattle.lines.proofs.KeptLaws.{kept_laws}
use Rattle.lines.proofs.number_of.Goals as goal

pub returns-then-value-lt10 : goal.returns-then-value-lt10
returns-then-value-lt10 c = search (rules, kept_laws)

pub returns : goal.returns
returns c = search (rules, kept_laws)
