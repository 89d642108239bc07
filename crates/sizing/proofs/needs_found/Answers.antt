-- `needs_found` meets its contract. Assumes nothing.
use Rattle.image.proofs.LoadLaws.{may_size}
use Rattle.sizing.proofs.needs_found.Goals as goal

pub load-requires : goal.load-requires
load-requires c = may_size _ _ c.nothing_loaded-loading.ensures.1 c.empty_set-set.ensures.0
