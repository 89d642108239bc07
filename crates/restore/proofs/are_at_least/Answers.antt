-- `are_at_least` meets its contract. Assumes nothing.
use Rattle.std.proofs.Common.{rules}
use Rattle.restore.proofs.TakeLaws.{ring_tests}
use Rattle.restore.proofs.are_at_least.Goals as goal

pub loop-k-init : goal.loop-k-init
loop-k-init c = search (rules, ring_tests)

pub returns-then-decode-ring : goal.returns-then-decode-ring
returns-then-decode-ring c = search (rules, ring_tests)

pub loop-k-preserved : goal.loop-k-preserved
loop-k-preserved c = search (rules, ring_tests)

pub returns : goal.returns
returns c = search (rules, ring_tests)
