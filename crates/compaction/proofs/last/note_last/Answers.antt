-- `last::note_last` meets its contract. Assumes nothing.
use Rattle.std.proofs.Common.{rules}
use Rattle.compaction.proofs.LastLaws.{word_noted, none_written}
use Rattle.compaction.proofs.last.note_last.Goals as goal
use Rattle.compaction.proofs.last.note_last.Goals.{in-Some-word, in_default-word}

pub loop-record-preserved : goal.loop-record-preserved
loop-record-preserved c =
    elim c.match-record.branch [
      | in-Some-word w ↦ rw w.last-is (word_noted c.loop-record.invariant c.in-Some.ensures _ w.in-Some-word.is)
      | in_default-word w ↦ rw w.last-is (none_written c.loop-record.invariant c.in-Some.ensures (search rules))
    ]
