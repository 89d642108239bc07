-- `put_faults` meets its contract. Assumes nothing.
use Rattle.model.specs.Listing.{ascii}
use Rattle.doorways.proofs.LineLaws.{no_faults_put, faults_put}
use borrow.Author.Rules.{rules}
use Rattle.doorways.proofs.put_faults.Goals as goal

pub returns-then-delivery-eq1 : goal.returns-then-delivery-eq1
unfolding ascii
returns-then-delivery-eq1 c = search (rules, faults_put)

pub returns : goal.returns
returns c = search (rules, no_faults_put)
