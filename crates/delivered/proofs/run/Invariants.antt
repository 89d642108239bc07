-- `run`: part after part. Assumes nothing.
use Prim.Native.Nat.{◌-◌}
use Rattle.state.specs.View.{as_machine, as_delivery}
use Rattle.delivered.proofs.PartingLaws.{Parting}
use Rattle.delivered.proofs.run.Given as goal

abbrev pub invariant-loop-end : goal.invariant-loop-end
invariant-loop-end l =
    Parting (as_delivery l.delivery) l.budget (as_machine l.initial.at l.initial.prs l.initial.memory) l.initial.trace l.count l.total (as_machine l.at l.prs l.memory) l.trace

abbrev pub decreases-loop-end : goal.decreases-loop-end
decreases-loop-end l = l.budget - l.count
