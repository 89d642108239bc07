-- `settle` meets its contract. Assumes nothing.
use Rattle.settle.proofs.SettleLaws.{settlings}
use borrow.Author.Rules.{rules}
use Rattle.settle.proofs.settle.Goals as goal

pub settle_fault-requires : goal.settle_fault-requires
settle_fault-requires c = search (rules, settlings)

pub returns-then-number-ne0 : goal.returns-then-number-ne0
returns-then-number-ne0 c = search (rules, settlings)

pub settle_fault-requires-in-Faulted : goal.settle_fault-requires-in-Faulted
settle_fault-requires-in-Faulted c = search (rules, settlings)

pub returns-in-Completed : goal.returns-in-Completed
returns-in-Completed c = search (rules, settlings)

pub returns-in-Halted : goal.returns-in-Halted
returns-in-Halted c = search (rules, settlings)

-- the step stands past the records that `search` enters
pub returns-in-Faulted : goal.returns-in-Faulted
returns-in-Faulted c = search (rules, settlings, c.requires.1)

pub restore-x-requires : goal.restore-x-requires
restore-x-requires c = search (rules, settlings)
