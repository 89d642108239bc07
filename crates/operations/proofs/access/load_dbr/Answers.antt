-- `access::load_dbr` meets its contract. Assumes nothing.
use Rattle.std.proofs.Common.{refl, rules}
use Rattle.operations.proofs.AccessLaws.{load_dbr_refused, load_dbr_takes}
use Rattle.operations.proofs.access.load_dbr.Goals as goal

pub returns-in-Err : goal.returns-in-Err
returns-in-Err c = load_dbr_refused _ _ _ _ _ _ _ _ c.in-Err.is c.read.ensures (search rules) refl

pub returns-in-Ok : goal.returns-in-Ok
returns-in-Ok c = load_dbr_takes _ _ _ _ _ _ _ c.in-Ok.is c.read.ensures c.take_dbr.ensures
