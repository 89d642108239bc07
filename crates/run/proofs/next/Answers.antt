-- `next` meets its contract. Assumes nothing.
use Rattle.state.proofs.PassingLaws.{ready_passing, prs_in_range}
use Rattle.run.proofs.TurnLaws.{next_law}
use Rattle.state.specs.View.{as_machine}
use Rattle.run.proofs.next.Goals as goal

pub quick-requires : goal.quick-requires
quick-requires c = let e = c.requires in (ready_passing _ _ _ _ e.0, prs_in_range _ _ _ _ e.0, e.1)

pub returns : goal.returns
returns c =
    let a = c.args in
    next_law _ _ (as_machine a.core a.prs.now a.memory.now) c.quick.result c.quick.ensures c.if-budget-count.false
