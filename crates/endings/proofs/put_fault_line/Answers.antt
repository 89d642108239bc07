-- `put_fault_line` meets its contract. Assumes nothing.
use borrow.Author.Rules.{rules}
use Rattle.model.specs.Listing.{ascii}
use Rattle.endings.proofs.LastLineLaws.{next_after_fault_line, fault_line_put}
use Rattle.endings.proofs.put_fault_line.Goals as goal

pub returns : goal.returns
unfolding ascii
returns c = (search fault_line_put, search next_after_fault_line, search rules)
