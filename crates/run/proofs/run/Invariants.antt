use Prim.Native.Nat.{◌-◌, ◌*◌, ◌≤◌}
use Rattle.model.specs.Registers.{no_delivery}
use Rattle.dispatch.specs.Plain.{plain_step}
use Rattle.run.specs.Run.{OnTheWay}
use Rattle.state.specs.View.{as_machine}
use Rattle.run.proofs.run.Given as goal

abbrev pub invariant-loop-count : goal.invariant-loop-count
invariant-loop-count l =
    OnTheWay plain_step no_delivery l.budget 0 (as_machine l.initial.at l.initial.prs l.initial.memory) l.initial.trace l.count l.total (as_machine l.at l.prs l.memory) l.trace × (l.total ≤ 64 * l.count)

abbrev pub decreases-loop-count : goal.decreases-loop-count
decreases-loop-count l = l.budget - l.count
