-- `start::put_pointer` meets its contract. Assumes nothing.
use borrow.Author.Rules.{rules}
use Rattle.model.specs.Write.{pointer_bytes}
use Rattle.writing.proofs.start.put_pointer.Goals as goal

pub returns : goal.returns
unfolding pointer_bytes
returns c = search rules
