-- `start::put_start` meets its contract. Assumes nothing.
use borrow.Author.Rules.{rules}
use Rattle.model.specs.Write.{delivery_bytes}
use Rattle.writing.proofs.PutLaws.{start_put}
use Rattle.writing.proofs.start.put_start.Goals as goal

pub returns : goal.returns
unfolding delivery_bytes
returns c = search (rules, start_put)
