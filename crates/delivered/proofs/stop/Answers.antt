-- `stop` meets its contract. Assumes nothing.
use Rattle.delivered.proofs.StopLaws.{stop_needs, settle_needs, ipr_completed, ipr_halted, stop_completed, stop_halted, stop_faulted}
use Rattle.delivered.proofs.stop.Goals as goal

pub words_of-last-requires : goal.words_of-last-requires
words_of-last-requires c = stop_needs _ _ c.requires.0 _ _ c.requires.1

pub settle-y-requires : goal.settle-y-requires
settle-y-requires c = settle_needs _ _ c.requires.0 _ c.words_of-last.ensures.2 _ _ c.requires.1 c.requires.2

pub note-requires : goal.note-requires
note-requires c = (ipr_completed _ _ c.requires.0 _ c.words_of-last.ensures.2 _ _ _ c.settle-y.ensures c.in-Completed.is, c.words_of-last.ensures.1)

pub note-requires-in-Halted : goal.note-requires-in-Halted
note-requires-in-Halted c = (ipr_halted _ _ c.requires.0 _ c.words_of-last.ensures.2 _ _ _ c.settle-y.ensures c.in-Halted.is, c.words_of-last.ensures.1)

pub returns-in-Completed : goal.returns-in-Completed
returns-in-Completed c = rw c.going_on.ensures (stop_completed _ _ _ _ _ _ c.requires.0 c.requires.3 _ c.words_of-last.ensures.0 c.words_of-last.ensures.1 _ c.words_of-last.ensures.2 _ _ c.settle-y.ensures _ c.note.ensures _ c.in-Completed.is)

pub returns-in-Halted : goal.returns-in-Halted
returns-in-Halted c = rw c.ended.ensures (stop_halted _ _ _ _ _ _ c.requires.0 c.requires.3 _ c.words_of-last.ensures.0 c.words_of-last.ensures.1 _ c.words_of-last.ensures.2 _ _ c.settle-y.ensures _ c.note-in-Halted.ensures _ c.in-Halted.is)

pub returns-in-Faulted : goal.returns-in-Faulted
returns-in-Faulted c = rw c.ended-in-Faulted.ensures (stop_faulted _ _ _ _ _ _ c.requires.0 c.requires.3 _ c.words_of-last.ensures.0 c.words_of-last.ensures.1 _ c.words_of-last.ensures.2 _ _ c.settle-y.ensures _ _ c.in-Faulted.is _)
