-- `return_to` meets its contract. Assumes nothing.
use Rattle.std.proofs.Common.{refl, rules}
use Rattle.control.proofs.MoveLaws.{return_refused, return_enters}
use Rattle.control.proofs.return_to.Goals as goal

pub returns-in-Err : goal.returns-in-Err
returns-in-Err c = return_refused _ _ _ _ _ _ _ c.look.ensures _ refl _ c.in-Err.is (search rules)

pub returns-in-Ok : goal.returns-in-Ok
returns-in-Ok c = return_enters _ _ _ _ _ _ _ c.look.ensures _ refl _ _ c.in-Ok.is c.raise_rings.ensures (search rules)
