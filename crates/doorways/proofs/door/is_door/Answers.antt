-- `door::is_door` meets its contract. Assumes nothing.
use Rattle.doorways.proofs.DoorLaws.{door_passes, door_refused}
use Rattle.doorways.proofs.door.is_door.Goals as goal

pub returns-in-Ok : goal.returns-in-Ok
returns-in-Ok c = door_passes _ _ _ c.in-Ok.ensures c.leads_down.ensures

pub returns-in-Err : goal.returns-in-Err
returns-in-Err c = door_refused _ _ _ c.in-Err.ensures
