-- `step` meets its contract. Assumes nothing.
use borrow.Author.Rules.{rules}
use Rattle.plain.proofs.PlainLaws.{without_trace}
use Rattle.plain.proofs.step.Goals as goal

pub slice_bounds-run_numbers-end : goal.slice_bounds-run_numbers-end
slice_bounds-run_numbers-end c = search rules

pub run_numbers-requires : goal.run_numbers-requires
run_numbers-requires c = search rules

pub returns : goal.returns
returns c = without_trace _ _ _ _ _ _ _ c.run_numbers.ensures
