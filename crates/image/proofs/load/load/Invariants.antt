use Prim.Native.Nat.{◌-◌}
use lib.ListN.{length}
use Rattle.image.specs.Load.{LoadedSoFar}
use Rattle.image.proofs.load.load.Given as goal

abbrev pub invariant-loop-outcome : goal.invariant-loop-outcome
invariant-loop-outcome l = LoadedSoFar l.initial.loading l.initial.store l.bytes l.ended l.at l.loading l.store

abbrev pub decreases-loop-outcome : goal.decreases-loop-outcome
decreases-loop-outcome l = length l.bytes - l.at
