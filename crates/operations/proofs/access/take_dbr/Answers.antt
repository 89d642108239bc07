-- `access::take_dbr` meets its contract. Assumes nothing.
use Rattle.std.proofs.Common.{rules}
use Rattle.operations.proofs.AccessLaws.{dbrs}
use Rattle.operations.proofs.access.take_dbr.Goals as goal

pub returns-in-Err : goal.returns-in-Err
returns-in-Err c = search (rules, dbrs, c.in-Err.ensures.same, c.in-Err.ensures.asked)

pub returns-in-Ok : goal.returns-in-Ok
returns-in-Ok c = search (rules, dbrs)
