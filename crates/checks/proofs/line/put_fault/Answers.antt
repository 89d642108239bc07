-- `line::put_fault` meets its contract. Assumes nothing.
use Rattle.model.specs.Listing.{ascii}
use Rattle.checks.proofs.LineLaws.{next_after_fault, fault_put}
use borrow.Author.Rules.{rules}
use Rattle.checks.proofs.line.put_fault.Goals as goal

pub put_named-at_ring-requires : goal.put_named-at_ring-requires
put_named-at_ring-requires c = search rules

pub put_digit-at_segment-requires : goal.put_digit-at_segment-requires
put_digit-at_segment-requires c = search rules

pub put_short-at_word-requires : goal.put_short-at_word-requires
put_short-at_word-requires c = search rules

pub put_short-requires : goal.put_short-requires
put_short-requires c = search rules

pub returns : goal.returns
unfolding ascii
returns c = (search fault_put, search next_after_fault, search rules)
