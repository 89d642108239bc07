-- `put_step` meets its contract. Assumes nothing.
use borrow.Author.Rules.{rules}
use Rattle.chunks.proofs.ChunkLaws.{line_of_a_step}
use Rattle.chunks.proofs.put_step.Goals as goal

pub returns : goal.returns
returns c = search (rules, line_of_a_step)
