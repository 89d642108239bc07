-- `segment::write` meets its contract. Assumes nothing.
use Rattle.std.proofs.Common.{arith}
use Rattle.segments.proofs.SegmentLaws.{word_below}
use Rattle.segments.proofs.segment.write.Goals as goal

pub absolute_address-requires : goal.absolute_address-requires
absolute_address-requires c = omega (arith, word_below c.args.d.0 c.args.word.0 c.requires.1)
