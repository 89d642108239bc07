-- What `convert_input` owes. Assumes nothing.
use Rattle.std.proofs.Common.{refl}
use Rattle.convert.proofs.TurnLaws.{turn_starts}
use Rattle.convert.proofs.convert_input.Goals as goal

pub loop-init : goal.loop-init
loop-init g c = (refl, turn_starts _ _ _ c.nothing_loaded-loading.ensures.0 c.empty_store-store.ensures.0 c.requires)
