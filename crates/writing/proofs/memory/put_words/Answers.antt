-- `memory::put_words` meets its contract. Assumes nothing.
use Rattle.std.proofs.Common.{rules}
use Rattle.writing.proofs.WordsLaws.{words_to_put, words_laws}
use Rattle.writing.proofs.memory.put_words.Goals as goal

pub loop-k-preserved : goal.loop-k-preserved
loop-k-preserved c =
    let rest = words_to_put _ _ _ _ _ c.loop-k.invariant.1 _ _ (search rules) (search rules) c.put_word-next.ensures in
    (search rules, rest, search (rules, words_laws))

pub returns : goal.returns
returns c = search (rules, words_laws)
