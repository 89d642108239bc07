use Rattle.std.proofs.Common.{◌≡◌}
use Rattle.control.proofs.RaiseLaws.{raised_first}
use Rattle.state.specs.View.{as_pointers}
use Rattle.control.proofs.raise_rings.Given as goal

abbrev pub invariant-loop-k : goal.invariant-loop-k
invariant-loop-k l = as_pointers l.prs ≡ raised_first l.ring l.k (as_pointers l.initial.prs)
