-- `put_short` meets its contract. Assumes nothing.
use borrow.Author.Rules.{rules}
use Rattle.parts.proofs.PartLaws.{short_laws}
use Rattle.parts.proofs.put_short.Goals as goal

pub returns-then-v-lt100 : goal.returns-then-v-lt100
returns-then-v-lt100 c = search (rules, short_laws)

pub returns : goal.returns
returns c = search (rules, short_laws)
