-- What `put_needs` owes. Assumes nothing.
use Rattle.std.proofs.Common.{rules}
use Rattle.model.specs.Listing.{ascii}
use Rattle.needs.proofs.LineLaws.{texts}
use Rattle.needs.proofs.put_needs.Goals as goal

pub returns-then-needs-ne0 : goal.returns-then-needs-ne0
unfolding ascii
returns-then-needs-ne0 c = search (rules, texts)

pub returns : goal.returns
returns c = search (rules, texts)
