use Rattle.std.proofs.Common.{◌≡◌, map}
use Rattle.model.specs.Old.{converted_word}
use Rattle.old.specs.View.{as_way}
use Rattle.old.proofs.SegmentLaws.{converted_on}
use Rattle.old.proofs.convert_each.Given as goal

abbrev pub invariant-loop-word : goal.invariant-loop-word
invariant-loop-word l = converted_on (as_way l.way) l.word-index l.words ≡ map (converted_word (as_way l.way)) l.initial.words
