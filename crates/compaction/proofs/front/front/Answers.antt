-- `front::front` meets its contract. Assumes nothing.
use Rattle.std.proofs.Common.{rules}
use Rattle.compaction.proofs.FrontLaws.{short_front, wordless_front, wd_front}
use Rattle.compaction.proofs.front.front.Goals as goal

pub returns-then-bytes-size : goal.returns-then-bytes-size
returns-then-bytes-size c = short_front _ _ c.in-Some.ensures _ c.size_of-size.ensures c.if-bytes-size.true

pub returns-in-Memory : goal.returns-in-Memory
returns-in-Memory c = wordless_front _ _ c.in-Some.ensures _ c.size_of-size.ensures c.if-bytes-size.false c.in-Memory.is _ (search rules)

pub returns-in-Word : goal.returns-in-Word
returns-in-Word c = wd_front _ _ c.in-Some.ensures _ c.size_of-size.ensures c.if-bytes-size.false c.in-Word.is _ (search rules) _ c.address_of.ensures
