-- `door::put_door` meets its contract. Assumes nothing.
use Rattle.model.specs.Listing.{ascii}
use Rattle.doorways.proofs.DoorLaws.{r3_one_digit}
use Rattle.doorways.proofs.LineLaws.{door_put}
use borrow.Author.Rules.{rules}
use Rattle.doorways.proofs.door.put_door.Goals as goal

pub put_digit-at_new-requires : goal.put_digit-at_new-requires
put_digit-at_new-requires c = search (rules, r3_one_digit)

pub returns : goal.returns
unfolding ascii
returns c = search (rules, door_put)
