-- `take_up` meets its contract. Assumes nothing.
use Rattle.std.proofs.Common.{refl, rules}
use Rattle.restore.proofs.TakeLaws.{frame_unfit, frame_below, frame_taken}
use Rattle.restore.proofs.take_up.Goals as goal

pub returns-in-Err : goal.returns-in-Err
returns-in-Err c = frame_unfit _ _ _ _ _ _ _ _ c.in-Err.ensures.same c.in-Err.ensures.asked (search rules) refl

pub returns-then-not-are_at_least : goal.returns-then-not-are_at_least
returns-then-not-are_at_least c = frame_below _ _ _ _ _ _ c.in-Ok.ensures.asked _ c.decode-ipr.ensures _ c.are_at_least.ensures _ c.if-not-are_at_least.true (search rules) refl

pub returns : goal.returns
returns c = frame_taken _ _ _ _ _ _ c.in-Ok.ensures.asked _ c.decode-ipr.ensures _ c.are_at_least.ensures c.if-not-are_at_least.false _ c.in-Ok.ensures.same _ c.take_prs.ensures refl
