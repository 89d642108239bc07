-- What `put_figures` owes. Assumes nothing.
use Rattle.std.proofs.Common.{rules}
use Rattle.model.specs.Listing.{ascii}
use Rattle.needs.proofs.LineLaws.{figures_put}
use Rattle.needs.proofs.put_figures.Goals as goal

pub returns : goal.returns
unfolding ascii
returns c = search (rules, figures_put)
