-- `tpr` meets its contract. Assumes nothing.
use Rattle.std.proofs.Common.{rules}
use Rattle.addressing.proofs.AddressLaws.{tpr_same}
use Rattle.addressing.proofs.tpr.Goals as goal

pub returns : goal.returns
returns c = search (rules, tpr_same)
