-- `make_room` meets its contract. Assumes nothing.
use borrow.Author.Rules.{rules}
use Rattle.conversion.proofs.PieceLaws.{rooms}
use Rattle.conversion.proofs.make_room.Goals as goal

pub returns : goal.returns
returns c = search (rules, rooms)
