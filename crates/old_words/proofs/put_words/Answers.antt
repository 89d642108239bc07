-- What `put_words` owes. Assumes nothing.
use Rattle.std.proofs.Common.{rules}
use Rattle.old_words.proofs.WordsLaws.{word_put, put_laws}
use Rattle.old_words.proofs.put_words.Goals as goal

pub loop-i-preserved : goal.loop-i-preserved
loop-i-preserved c = (search rules, word_put _ _ _ _ c.loop-i.invariant.1 _ _ (search rules) (search rules) c.put_number.ensures)

pub returns : goal.returns
returns c = search (rules, put_laws)
