-- `next` meets its contract. Assumes nothing.
use borrow.Author.Rules.{rules}
use Rattle.lines.proofs.KeptLaws.{kept_laws}
use Rattle.lines.proofs.next.Goals as goal

pub returns-then-n-lt9 : goal.returns-then-n-lt9
returns-then-n-lt9 c = search (rules, kept_laws)
