-- `counted` meets its contract. Assumes nothing.
use borrow.Author.Rules.{rules}
use Rattle.plain.proofs.PlainLaws.{counts}
use Rattle.plain.proofs.counted.Goals as goal

pub overflow_add-result : goal.overflow_add-result
overflow_add-result c = search rules

pub returns-then-single : goal.returns-then-single
returns-then-single c = search (rules, counts)

pub returns : goal.returns
returns c = search (rules, counts)
