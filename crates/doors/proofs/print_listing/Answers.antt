-- What `print_listing` owes. Assumes nothing.
use Rattle.std.proofs.Common.{rules}
use Rattle.doors.proofs.print_listing.Goals as goal

pub print-requires : goal.print-requires
print-requires g c = search (rules, c.put_listing-size.ensures 0)
