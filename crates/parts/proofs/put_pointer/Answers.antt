-- `put_pointer` meets its contract. Assumes nothing.
use borrow.Author.Rules.{rules}
use Rattle.parts.proofs.PartLaws.{pointer_laws}
use Rattle.parts.proofs.put_pointer.Goals as goal

pub returns : goal.returns
returns c = search (rules, pointer_laws)
