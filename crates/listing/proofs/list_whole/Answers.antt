-- `list_whole` meets its contract. Assumes nothing.
use borrow.Author.Rules.{rules}
use Rattle.listing.proofs.ListedLaws.{whole_listings}
use Rattle.listing.proofs.list_whole.Goals as goal

pub returns : goal.returns
returns c = search (rules, whole_listings)
