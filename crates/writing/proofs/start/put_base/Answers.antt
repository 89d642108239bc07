-- `start::put_base` meets its contract. Assumes nothing.
use borrow.Author.Rules.{rules}
use Rattle.model.specs.Listing.{ascii}
use Rattle.writing.proofs.PutLaws.{base_put}
use Rattle.writing.proofs.start.put_base.Goals as goal

pub returns : goal.returns
unfolding ascii
returns c = search (rules, base_put)
