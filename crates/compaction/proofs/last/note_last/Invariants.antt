use Prim.Native.Nat.{◌-◌}
use lib.ListN.{length}
use Rattle.compaction.proofs.LastLaws.{NotedSoFar}
use Rattle.compaction.proofs.last.note_last.Given as goal

abbrev pub invariant-loop-record : goal.invariant-loop-record
invariant-loop-record l = NotedSoFar l.bytes l.initial.last l.at l.last

abbrev pub decreases-loop-record : goal.decreases-loop-record
decreases-loop-record l = length l.bytes - l.at
