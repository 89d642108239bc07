-- `restore` meets its contract. Assumes nothing.
use Rattle.std.proofs.Common.{refl, rules}
use Rattle.restore.proofs.TakeLaws.{frame_within, thirteen_words, restore_refused, restore_taken}
use Rattle.restore.proofs.restore.Goals as goal

pub frame_at-requires : goal.frame_at-requires
frame_at-requires c = (c.in-Ok.ensures.found.fits, frame_within _ _ _ _ c.in-Ok.ensures)

pub take_up-requires : goal.take_up-requires
take_up-requires c = thirteen_words _ _ _ _ c.in-Ok.ensures _ c.frame_at.ensures

pub returns-in-Err : goal.returns-in-Err
returns-in-Err c = restore_refused _ _ _ _ _ c.look.ensures _ _ _ c.in-Err.is (search rules) refl

pub returns-in-Ok : goal.returns-in-Ok
returns-in-Ok c = restore_taken _ _ _ _ _ c.look.ensures _ _ c.in-Ok.is _ c.frame_at.ensures _ c.take_up.ensures
