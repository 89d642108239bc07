use Rattle.std.proofs.Common.{◌≡◌, drop}
use Rattle.state.specs.View.{as_pointers}
use Rattle.restore.proofs.TakeLaws.{taken_first}
use Rattle.restore.proofs.take_prs.Given as goal

abbrev pub invariant-loop-k : goal.invariant-loop-k
invariant-loop-k l = as_pointers l.prs ≡ taken_first l.k (drop 5 l.frame) (as_pointers l.initial.prs)
