-- `call` meets its contract. Assumes nothing.
use Rattle.std.proofs.Common.{refl, rules}
use Rattle.control.proofs.MoveLaws.{call_refused, call_enters}
use Rattle.state.specs.View.{pr_of}
use Rattle.control.proofs.call.Goals as goal

pub returns-in-Err : goal.returns-in-Err
returns-in-Err c = call_refused _ _ _ _ _ _ _ c.check.ensures _ _ c.in-Err.is (search rules) refl

pub returns-in-Ok : goal.returns-in-Ok
unfolding pr_of
returns-in-Ok c = call_enters _ _ _ _ _ _ _ c.check.ensures _ _ _ c.in-Ok.is c.set_stack_base.ensures (search rules) refl
