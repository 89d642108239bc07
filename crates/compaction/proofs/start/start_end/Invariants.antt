use Prim.Native.Nat.{◌-◌}
use lib.ListN.{length}
use Rattle.compaction.proofs.StartLaws.{StartSoFar}
use Rattle.compaction.proofs.start.start_end.Given as goal

abbrev pub invariant-loop-record : goal.invariant-loop-record
invariant-loop-record l = StartSoFar l.bytes l.at

abbrev pub decreases-loop-record : goal.decreases-loop-record
decreases-loop-record l = length l.bytes - l.at
