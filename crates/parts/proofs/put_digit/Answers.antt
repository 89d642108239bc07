-- `put_digit` meets its contract. Assumes nothing.
use borrow.Author.Rules.{rules}
use Rattle.parts.proofs.PartLaws.{one_digit_laws}
use Rattle.parts.proofs.put_digit.Goals as goal

pub bounds-text-at-2 : goal.bounds-text-at-2
bounds-text-at-2 c = search (rules, one_digit_laws)

pub returns : goal.returns
returns c = search (rules, one_digit_laws)
