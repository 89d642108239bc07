-- `access::write` meets its contract. Assumes nothing.
use Rattle.segments.proofs.UseLaws.{write_stores}
use Rattle.segments.proofs.access.write.Goals as goal

pub returns : goal.returns
returns c = rw c.write.ensures (write_stores _ _ _ _ _ _ c.in_ok-d.ensures)
