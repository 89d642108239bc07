-- What `read_words` owes. Assumes nothing.
use Rattle.std.proofs.Common.{rules}
use Rattle.old_words.proofs.WordsLaws.{read_laws}
use Rattle.old_words.proofs.read_words.Goals as goal

pub loop-i-init : goal.loop-i-init
loop-i-init c = search (rules, read_laws)

pub loop-i-preserved : goal.loop-i-preserved
loop-i-preserved c = search (rules, read_laws)

pub returns : goal.returns
returns c = search (rules, read_laws)
