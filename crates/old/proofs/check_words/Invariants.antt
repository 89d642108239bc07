use Rattle.std.proofs.Common.{◌≡◌, drop}
use Rattle.model.specs.Old.{words_answer}
use Rattle.old.specs.View.{as_way}
use Rattle.old.proofs.check_words.Given as goal

abbrev pub invariant-loop-index : goal.invariant-loop-index
invariant-loop-index l = words_answer (as_way l.way) l.index-counter (drop l.index-counter l.words) ≡ words_answer (as_way l.way) 0 l.words
