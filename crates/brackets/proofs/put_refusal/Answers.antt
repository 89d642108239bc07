-- What `put_refusal` owes. Assumes nothing.
use Rattle.std.proofs.Common.{rules}
use Rattle.model.specs.Listing.{last_line}
use Rattle.brackets.proofs.put_refusal.Goals as goal

pub returns : goal.returns
unfolding last_line
returns c = search rules
