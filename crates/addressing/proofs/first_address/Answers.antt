-- `first_address` meets its contract. Assumes nothing.
use Rattle.std.proofs.Common.{rules}
use Rattle.addressing.proofs.AddressLaws.{firsts}
use Rattle.addressing.proofs.first_address.Goals as goal

pub returns-then-not-is_by_pr : goal.returns-then-not-is_by_pr
returns-then-not-is_by_pr c = search (rules, firsts)

pub returns : goal.returns
returns c = search (rules, firsts)
