-- `put_last_line` meets its contract. Assumes nothing.
use borrow.Author.Rules.{rules}
use Rattle.model.specs.Listing.{ascii, line, refusal_line, last_line}
use Rattle.endings.proofs.LastLineLaws.{last_line_laws}
use Rattle.endings.proofs.put_last_line.Goals as goal

pub put_fault_line-requires : goal.put_fault_line-requires
put_fault_line-requires c = search (rules, last_line_laws)

pub returns-in-Refused : goal.returns-in-Refused
unfolding ascii line refusal_line last_line
returns-in-Refused c = search (rules, last_line_laws)

pub returns-in-Spent : goal.returns-in-Spent
unfolding ascii line last_line
returns-in-Spent c = search (rules, last_line_laws)

pub returns-in-Halted : goal.returns-in-Halted
unfolding ascii line last_line
returns-in-Halted c = search (rules, last_line_laws)

pub returns-in-Fault : goal.returns-in-Fault
unfolding ascii line last_line
returns-in-Fault c = search (rules, last_line_laws)
