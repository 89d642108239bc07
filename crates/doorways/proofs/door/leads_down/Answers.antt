-- `door::leads_down` meets its contract. Assumes nothing.
use Rattle.doorways.proofs.DoorLaws.{leads_down_by}
use borrow.Author.Rules.{rules}
use Rattle.doorways.proofs.door.leads_down.Goals as goal

pub returns : goal.returns
returns c = search (rules, leads_down_by)
