-- `settle_fault` meets its contract. Assumes nothing.
use Rattle.settle.proofs.SettleLaws.{faultings}
use borrow.Author.Rules.{rules}
use Rattle.settle.proofs.settle_fault.Goals as goal

pub deliver-requires : goal.deliver-requires
deliver-requires c = search (rules, faultings)

pub returns-then-deliver : goal.returns-then-deliver
returns-then-deliver c = search (rules, faultings)

pub returns : goal.returns
returns c = search (rules, faultings)
