-- `renew::add_zeros` meets its contract. Assumes nothing.
use borrow.Author.Rules.{rules}
use Rattle.compaction.proofs.StartLaws.{renews}
use Rattle.compaction.proofs.renew.add_zeros.Goals as goal

pub slice_bounds-start_end-end : goal.slice_bounds-start_end-end
slice_bounds-start_end-end c = search rules

pub slice_bounds-start_end-end-2 : goal.slice_bounds-start_end-end-2
slice_bounds-start_end-end-2 c = search (rules, renews)

pub start_end-at-requires : goal.start_end-at-requires
start_end-at-requires c = search rules

pub overflow_add-at : goal.overflow_add-at
overflow_add-at c = search (rules, renews)

pub overflow_sub-end : goal.overflow_sub-end
overflow_sub-end c = search (rules, renews)

pub move_bytes-requires : goal.move_bytes-requires
move_bytes-requires c = search (rules, renews)

pub clear-requires : goal.clear-requires
clear-requires c = search (rules, renews)

pub overflow_add-result : goal.overflow_add-result
overflow_add-result c = search rules

pub returns : goal.returns
returns c = search (rules, renews)
