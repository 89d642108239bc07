-- `run_core` meets its contract. Assumes nothing.
use Rattle.entry.proofs.CallLaws.{core_says}
use Rattle.entry.proofs.StepLaws.{step_is_plain, step_again}
use borrow.Author.Rules.{rules}
use Rattle.entry.proofs.run_core.Goals as goal

pub is_delivery-requires : goal.is_delivery-requires
is_delivery-requires c = search rules

pub step-x-requires : goal.step-x-requires
step-x-requires c = search rules

pub slice_bounds-run-end : goal.slice_bounds-run-end
slice_bounds-run-end c = search rules

pub run-x-requires : goal.run-x-requires
run-x-requires c = search rules

pub returns-then-x : goal.returns-then-x
returns-then-x c = step_again _ _ _ _ c.is_delivery.ensures c.if-single-budget.true _ _ _ _ _ _ c.step-x.ensures c.if-x.true _ _ _ _ _ c.run-x.ensures

pub returns-else-x : goal.returns-else-x
returns-else-x c = step_is_plain _ _ _ _ c.is_delivery.ensures c.if-single-budget.true _ _ _ _ _ _ c.step-x.ensures c.if-x.false

pub slice_bounds-run-end-2 : goal.slice_bounds-run-end-2
slice_bounds-run-end-2 c = search rules

pub run-requires : goal.run-requires
run-requires c = search rules

pub returns : goal.returns
returns c = core_says _ _ _ _ _ _ _ _ _ _ _ c.run.ensures
