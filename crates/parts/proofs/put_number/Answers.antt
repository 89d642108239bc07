-- `put_number` meets its contract. Assumes nothing.
use borrow.Author.Rules.{rules}
use Rattle.parts.proofs.PartLaws.{number_laws}
use Rattle.parts.proofs.put_number.Goals as goal

pub returns : goal.returns
returns c = search (rules, number_laws)
