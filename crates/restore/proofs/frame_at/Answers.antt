-- `frame_at` meets its contract. Assumes nothing.
use Rattle.std.proofs.Common.{rules}
use Rattle.restore.proofs.TakeLaws.{part_of}
use Rattle.restore.proofs.frame_at.Goals as goal

pub absolute_address-requires : goal.absolute_address-requires
absolute_address-requires c = search (rules, part_of)

pub returns : goal.returns
returns c = search (rules, part_of)
