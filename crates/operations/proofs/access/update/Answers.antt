-- `access::update` meets its contract. Assumes nothing.
use Rattle.std.proofs.Common.{refl, rules}
use Rattle.operations.proofs.AccessLaws.{update_refused, update_stores}
use Rattle.operations.proofs.access.update.Goals as goal

pub returns-in-Err : goal.returns-in-Err
returns-in-Err c = update_refused _ _ _ _ _ _ _ _ c.in-Err.is c.read-operand.ensures (search rules) refl

pub returns-in-Ok : goal.returns-in-Ok
returns-in-Ok c = update_stores _ _ _ _ _ _ _ c.in-Ok.is c.read-operand.ensures _ _ c.add-value.ensures c.store.ensures
