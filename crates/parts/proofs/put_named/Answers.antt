-- `put_named` meets its contract. Assumes nothing.
use borrow.Author.Rules.{rules}
use Rattle.parts.proofs.PartLaws.{named_laws}
use Rattle.parts.proofs.put_named.Goals as goal

pub returns : goal.returns
returns c = search (rules, named_laws)
