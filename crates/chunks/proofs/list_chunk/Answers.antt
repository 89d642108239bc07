-- `list_chunk` meets its contract. Assumes nothing.
use borrow.Author.Rules.{rules}
use Rattle.chunks.proofs.ChunkLaws.{chunks}
use Rattle.chunks.proofs.list_chunk.Goals as goal

pub overflow_add-sum : goal.overflow_add-sum
overflow_add-sum c = search (rules, chunks)

pub returns : goal.returns
returns c = search (rules, chunks)
