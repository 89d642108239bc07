-- What `needs_on_input` owes. Assumes nothing.
use Rattle.std.proofs.Common.{rules}
use Rattle.needs.proofs.LineLaws.{set_lent}
use Rattle.needs.proofs.needs_on_input.Goals as goal

pub read_image-requires : goal.read_image-requires
read_image-requires g c = search (rules, set_lent)
