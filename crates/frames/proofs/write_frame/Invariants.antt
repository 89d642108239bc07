use Rattle.std.proofs.Common.{◌≡◌, take}
use Rattle.model.specs.Deliver.{frame, with_words}
use Rattle.words.specs.View.{as_pointer}
use Rattle.state.specs.View.{as_registers}
use Rattle.frames.proofs.write_frame.Given as goal

abbrev pub invariant-loop-i : goal.invariant-loop-i
invariant-loop-i l = l.memory ≡ with_words l.start (take l.i (frame l.number (as_pointer l.t) (as_registers l.core l.prs))) l.initial.memory
