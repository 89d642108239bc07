-- `effective` meets its contract. Assumes nothing.
use Rattle.std.proofs.Common.{rules}
use Rattle.addressing.proofs.ChainLaws.{effective_law}
use Rattle.addressing.proofs.effective.Goals as goal

pub returns : goal.returns
returns c = search (rules, effective_law)
