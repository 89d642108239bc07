-- `put_segment` meets its contract. Assumes nothing.
use Rattle.doorways.proofs.DoorLaws.{door_leads_down}
use Rattle.doorways.proofs.ListLaws.{segment_laws}
use borrow.Author.Rules.{rules}
use Rattle.doorways.proofs.put_segment.Goals as goal

pub put_door-requires : goal.put_door-requires
put_door-requires c = search (rules, door_leads_down)

pub returns-then-is_door : goal.returns-then-is_door
returns-then-is_door c = search (rules, segment_laws)

pub returns : goal.returns
returns c = search (rules, segment_laws)
