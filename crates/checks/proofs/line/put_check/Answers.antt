-- `line::put_check` meets its contract. Assumes nothing.
use Rattle.model.specs.Listing.{ascii, line, refusal_line, check_line}
use Rattle.checks.proofs.NumberLaws.{pointer_within, ring_within}
use Rattle.checks.proofs.LineLaws.{line_laws}
use borrow.Author.Rules.{rules}
use Rattle.checks.proofs.line.put_check.Goals as goal

pub overflow_cast-n : goal.overflow_cast-n
overflow_cast-n c = search rules

pub put_named-requires : goal.put_named-requires
put_named-requires c = search rules

pub put_fault-requires : goal.put_fault-requires
put_fault-requires c = let w = pointer_within _ _ _ c.in-Fault.is c.requires.1 in search rules

pub overflow_cast-ring : goal.overflow_cast-ring
overflow_cast-ring c = let w = ring_within _ _ c.in-Passes.is c.requires.1 in search rules

pub put_named-requires-in-Passes : goal.put_named-requires-in-Passes
put_named-requires-in-Passes c = search rules

pub returns-in-Refused : goal.returns-in-Refused
unfolding ascii line refusal_line check_line
returns-in-Refused c = search (rules, line_laws)

pub returns-in-Fault : goal.returns-in-Fault
unfolding ascii line check_line
returns-in-Fault c = search (rules, line_laws)

pub returns-in-Passes : goal.returns-in-Passes
unfolding ascii line check_line
returns-in-Passes c = search (rules, line_laws)
