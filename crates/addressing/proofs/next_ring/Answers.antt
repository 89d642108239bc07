-- `next_ring` meets its contract. Assumes nothing.
use Rattle.std.proofs.Common.{rules}
use Rattle.addressing.proofs.AddressLaws.{rings}
use Rattle.addressing.proofs.next_ring.Goals as goal

pub returns : goal.returns
returns c = search (rules, rings)
