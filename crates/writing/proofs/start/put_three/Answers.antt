-- `start::put_three` meets its contract. Assumes nothing.
use borrow.Author.Rules.{rules}
use Rattle.writing.proofs.PutLaws.{three_put}
use Rattle.writing.proofs.start.put_three.Goals as goal

pub returns : goal.returns
returns c = search (rules, three_put)
