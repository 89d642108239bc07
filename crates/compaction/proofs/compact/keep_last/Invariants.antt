use Prim.Native.Nat.{◌-◌}
use Rattle.compaction.proofs.CompactLaws.{CompactedSoFar}
use Rattle.compaction.proofs.compact.keep_last.Given as goal

abbrev pub invariant-loop-record : goal.invariant-loop-record
invariant-loop-record l = CompactedSoFar l.end l.initial.buffer l.last l.from l.to l.buffer

abbrev pub decreases-loop-record : goal.decreases-loop-record
decreases-loop-record l = l.end - l.from
