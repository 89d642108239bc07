-- `access::load` meets its contract. Assumes nothing.
use Rattle.std.proofs.Common.{refl, rules}
use Rattle.operations.proofs.AccessLaws.{load_refused, load_completes}
use Rattle.operations.proofs.access.load.Goals as goal

pub returns-in-Err : goal.returns-in-Err
returns-in-Err c = load_refused _ _ _ _ _ _ _ _ c.in-Err.is c.read.ensures (search rules) refl _

pub returns-in-Ok : goal.returns-in-Ok
returns-in-Ok c = load_completes _ _ _ _ _ _ _ c.in-Ok.is c.read.ensures _ _ _ c.result_of-a.ensures c.with_a.ensures c.completed.ensures
