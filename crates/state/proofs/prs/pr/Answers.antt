-- `prs::pr` meets its contract. Assumes nothing.
use Rattle.std.proofs.Common.{rules}
use Rattle.state.proofs.PrLaws.{pr_law}
use Rattle.state.proofs.prs.pr.Goals as goal

pub returns : goal.returns
returns c = search (rules, pr_law)
