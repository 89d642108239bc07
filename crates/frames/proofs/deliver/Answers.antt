-- `deliver` meets its contract. Assumes nothing.
use Rattle.std.proofs.Common.{rules}
use Rattle.frames.proofs.FrameLaws.{deliveries}
use Rattle.frames.proofs.deliver.Goals as goal

pub returns-in-Some : goal.returns-in-Some
returns-in-Some c = search (rules, deliveries)
