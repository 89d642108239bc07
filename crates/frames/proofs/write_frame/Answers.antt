-- `write_frame` meets its contract. Assumes nothing.
use Rattle.std.proofs.Common.{rules}
use Rattle.frames.proofs.FrameLaws.{frame_writes}
use Rattle.frames.proofs.write_frame.Goals as goal

pub loop-i-init : goal.loop-i-init
loop-i-init c = search (rules, frame_writes)

pub loop-i-preserved : goal.loop-i-preserved
loop-i-preserved c = search (rules, frame_writes)

pub returns : goal.returns
returns c = search (rules, frame_writes)
