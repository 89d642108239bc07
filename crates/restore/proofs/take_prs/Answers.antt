-- `take_prs` meets its contract. Assumes nothing.
use Rattle.std.proofs.Common.{rules}
use Rattle.restore.proofs.TakeLaws.{takes}
use Rattle.restore.proofs.take_prs.Goals as goal

pub loop-k-init : goal.loop-k-init
loop-k-init c = search (rules, takes)

pub loop-k-preserved : goal.loop-k-preserved
loop-k-preserved c = search (rules, takes)

pub set_pr-requires : goal.set_pr-requires
set_pr-requires c = search (rules, takes)

pub returns : goal.returns
returns c = search (rules, takes)
