-- `raise_rings` meets its contract. Assumes nothing.
use Rattle.std.proofs.Common.{rules}
use Rattle.control.proofs.RaiseLaws.{raises}
use Rattle.control.proofs.raise_rings.Goals as goal

pub loop-k-init : goal.loop-k-init
loop-k-init c = search (rules, raises)

pub loop-k-preserved : goal.loop-k-preserved
loop-k-preserved c = search (rules, raises)

pub returns : goal.returns
returns c = search (rules, raises)
