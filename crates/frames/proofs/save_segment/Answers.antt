-- `save_segment` meets its contract. Assumes nothing.
use Rattle.std.proofs.Common.{refl}
use Rattle.state.specs.View.{as_delivery}
use Rattle.frames.proofs.SaveLaws.{switched_off, save_answered}
use Rattle.frames.proofs.save_segment.Goals as goal

pub returns-then-delivery-ne1 : goal.returns-then-delivery-ne1
returns-then-delivery-ne1 c = switched_off _ _ _ c.if-delivery-ne1.true

pub returns : goal.returns
returns c = save_answered (as_delivery c.args.delivery) c.args.core c.args.memory.now _ refl c.from.ensures refl _ c.look.ensures c.if-delivery-ne1.false c.ok.result c.ok.ensures.value
