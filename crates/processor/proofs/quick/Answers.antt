-- `quick` meets its contract. Assumes nothing.
use Rattle.processor.proofs.FormLaws.{code_fits, code_inside, quick_ready}
use Rattle.processor.proofs.quick.Goals as goal

pub read-word-requires : goal.read-word-requires
read-word-requires c = (code_fits _ _ _ c.requires.2, code_inside _ _ _ c.length_of.ensures.0 c.if-length_of-ipr.false)

pub returns : goal.returns
returns c = quick_ready _ _ _ c.requires.2 c.if-core-segment.false c.if-memory-at.false _ c.length_of.ensures.0 c.if-length_of-ipr.false c.read-word.ensures _ _ c.is_indirect.ensures c.if-is_indirect.false c.first_address-pointer.ensures.0 c.first_address-pointer.ensures.1
