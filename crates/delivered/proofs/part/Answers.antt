-- `part` meets its contract. Assumes nothing.
use Rattle.delivered.proofs.FollowLaws.{passes_plainly}
use Rattle.delivered.proofs.PartLaws.{never_refused, spent_fits, part_spent, halted_fits, part_halted, stop_below, stop_here, part_stopped}
use borrow.Author.Rules.{rules}
use Rattle.delivered.proofs.part.Goals as goal

pub steps-x-requires : goal.steps-x-requires
steps-x-requires c = (passes_plainly _ _ c.requires.0 _ c.requires.0, c.requires.1)

pub reply_of-requires : goal.reply_of-requires
reply_of-requires c = search rules

pub overflow_add-count : goal.overflow_add-count
overflow_add-count c = search (rules, spent_fits _ _ _ _ _ c.requires.0 c.requires.1 _ _ _ c.steps-x.ensures _ c.reply_of.ensures _ c.in-Spent.is)

pub overflow_add-count-in-Spent : goal.overflow_add-count-in-Spent
overflow_add-count-in-Spent c = search (rules, spent_fits _ _ _ _ _ c.requires.0 c.requires.1 _ _ _ c.steps-x.ensures _ c.reply_of.ensures _ c.in-Spent.is)

pub overflow_add-count-in-Halted : goal.overflow_add-count-in-Halted
overflow_add-count-in-Halted c = search (rules, halted_fits _ _ _ _ _ c.requires.0 c.requires.1 _ _ _ c.steps-x.ensures _ c.reply_of.ensures _ c.in-Halted.is)

pub overflow_add-count-in-Halted-2 : goal.overflow_add-count-in-Halted-2
overflow_add-count-in-Halted-2 c = search (rules, halted_fits _ _ _ _ _ c.requires.0 c.requires.1 _ _ _ c.steps-x.ensures _ c.reply_of.ensures _ c.in-Halted.is)

pub overflow_add-count-in-Fault : goal.overflow_add-count-in-Fault
overflow_add-count-in-Fault c = search (rules, stop_below _ _ _ _ _ c.requires.0 c.requires.1 _ _ _ c.steps-x.ensures _ c.reply_of.ensures _ _ _ c.in-Fault.is, c.ranges.budget.fits)

pub stop-requires : goal.stop-requires
stop-requires c = stop_here _ _ _ _ _ c.requires.0 c.requires.1 _ _ _ c.steps-x.ensures _ c.reply_of.ensures _ _ _ c.in-Fault.is

pub returns-in-Refused : goal.returns-in-Refused
returns-in-Refused c = absurd (never_refused _ _ _ _ _ c.requires.0 c.requires.1 _ _ _ c.steps-x.ensures _ c.reply_of.ensures _ c.in-Refused.is)

pub returns-in-Spent : goal.returns-in-Spent
returns-in-Spent c = rw c.ended-in-Spent.ensures (part_spent _ _ _ _ _ c.requires.0 c.requires.1 _ _ _ c.steps-x.ensures _ c.reply_of.ensures _ c.in-Spent.is _)

pub returns-in-Halted : goal.returns-in-Halted
returns-in-Halted c = rw c.ended-in-Halted.ensures (part_halted _ _ _ _ _ c.requires.0 c.requires.1 _ _ _ c.steps-x.ensures _ c.reply_of.ensures _ c.in-Halted.is _)

pub returns-in-Fault : goal.returns-in-Fault
returns-in-Fault c = part_stopped _ _ _ _ _ c.requires.0 c.requires.1 _ _ _ c.steps-x.ensures _ c.reply_of.ensures _ _ _ c.in-Fault.is _ _ _ c.stop.ensures
