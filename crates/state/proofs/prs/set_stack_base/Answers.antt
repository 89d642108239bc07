-- `prs::set_stack_base` meets its contract. Assumes nothing.
use Rattle.std.proofs.Common.{refl, arith}
use Rattle.state.proofs.PrLaws.{stack_base_law}
use Rattle.state.proofs.prs.set_stack_base.Goals as goal

pub returns : goal.returns
returns c = stack_base_law _ _ _ _ _ (omega arith) c.requires c.stack_place.ensures.0 refl
