-- `put_counted` meets its contract. Assumes nothing.
use borrow.Author.Rules.{rules}
use Rattle.endings.proofs.LastLineLaws.{counted_laws}
use Rattle.endings.proofs.put_counted.Goals as goal

pub returns : goal.returns
returns c = search (rules, counted_laws)
