-- `prs::set_pr` meets its contract. Assumes nothing.
use Rattle.std.proofs.Common.{arith}
use Rattle.state.proofs.PrLaws.{set_pr_law}
use Rattle.state.proofs.prs.set_pr.Goals as goal

pub returns : goal.returns
returns c = set_pr_law _ _ _ _ _ c.requires.0 (omega arith) c.requires.1
