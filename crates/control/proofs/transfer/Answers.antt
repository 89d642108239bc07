-- `transfer` meets its contract. Assumes nothing.
use Rattle.std.proofs.Common.{refl, rules}
use Rattle.control.proofs.MoveLaws.{transfer_not_taken, transfer_refused, transfer_enters}
use Rattle.control.proofs.transfer.Goals as goal

pub returns-then-not-is_taken : goal.returns-then-not-is_taken
returns-then-not-is_taken c = transfer_not_taken _ _ _ _ _ _ c.is_taken.ensures _ c.if-not-is_taken.true (search rules)

pub returns-in-Err : goal.returns-in-Err
returns-in-Err c = transfer_refused _ _ _ _ _ _ c.is_taken.ensures _ c.if-not-is_taken.false _ c.look.ensures _ refl _ c.in-Err.is (search rules)

pub returns-in-Ok : goal.returns-in-Ok
returns-in-Ok c = transfer_enters _ _ _ _ _ _ c.is_taken.ensures _ c.if-not-is_taken.false _ c.look.ensures _ refl _ c.in-Ok.is (search rules)
