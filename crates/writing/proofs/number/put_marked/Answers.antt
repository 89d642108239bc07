-- `number::put_marked` meets its contract. Assumes nothing.
use borrow.Author.Rules.{rules}
use Rattle.writing.proofs.PutLaws.{marked_put}
use Rattle.writing.proofs.number.put_marked.Goals as goal

pub returns : goal.returns
returns c = search (rules, marked_put)
