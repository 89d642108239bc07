use Prim.Native.Nat.{◌-◌}
use Rattle.run.proofs.TurnLaws.{Turning}
use Rattle.state.specs.View.{as_machine}
use Rattle.run.proofs.go_on.Given as goal

abbrev pub invariant-loop-going : goal.invariant-loop-going
invariant-loop-going l =
    Turning l.budget l.start l.first.read (as_machine l.initial.x.core l.initial.prs l.initial.memory) l.initial.trace l.x l.prs l.memory l.trace l.instruction.word l.instruction.pointer l.pointers l.count l.going

abbrev pub decreases-loop-going : goal.decreases-loop-going
decreases-loop-going l = l.budget - l.count
