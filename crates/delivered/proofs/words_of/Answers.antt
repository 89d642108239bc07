-- `words_of` meets its contract. Assumes nothing.
use Rattle.delivered.proofs.StopLaws.{stop_counted}
use borrow.Author.Rules.{rules}
use Rattle.delivered.proofs.words_of.Goals as goal

pub step-requires : goal.step-requires
step-requires c = search rules

pub returns : goal.returns
returns c = stop_counted _ _ _ _ c.requires.0 c.requires.1 _ _ _ _ c.step.ensures
