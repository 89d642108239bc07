-- `steps` meets its contract. Assumes nothing.
use Rattle.delivered.proofs.PartLaws.{steps_noted}
use borrow.Author.Rules.{rules}
use Rattle.delivered.proofs.steps.Goals as goal

pub place_in-start-requires : goal.place_in-start-requires
place_in-start-requires c = search rules

pub overflow_sub-budget : goal.overflow_sub-budget
overflow_sub-budget c = search rules

pub offset_bounds-trace-start : goal.offset_bounds-trace-start
offset_bounds-trace-start c = search rules

pub slice_bounds-run-count : goal.slice_bounds-run-count
slice_bounds-run-count c = search rules

pub slice_bounds-run-start : goal.slice_bounds-run-start
slice_bounds-run-start c = search rules

pub slice_bounds-run-end : goal.slice_bounds-run-end
slice_bounds-run-end c = search rules

pub run-requires : goal.run-requires
run-requires c = search rules

pub returns : goal.returns
returns c = steps_noted _ _ _ _ _ _ _ _ c.place_in-start.ensures.0 c.place_in-start.ensures.1 c.requires.1 c.run.ensures.fits c.run.ensures.trace_size (c.run.ensures.runs c.requires.0)
