-- `put_chunk` meets its contract. Assumes nothing.
use borrow.Author.Rules.{rules}
use Rattle.chunks.proofs.ChunkLaws.{steps_have_room, steps_traced, steps_fit, steps_few, chunk_written}
use Rattle.chunks.proofs.put_chunk.Goals as goal

pub put_steps-length-requires : goal.put_steps-length-requires
put_steps-length-requires c = (steps_have_room _ _ _ _ _ _ _ _ _ _ c.run-y.ensures c.requires.0 _ c.reply_of-reply.ensures _ c.steps_of.ensures _ _ c.requires.1, steps_traced _ _ _ _ _ _ _ _ _ _ c.run-y.ensures c.requires.0 _ c.reply_of-reply.ensures _ c.steps_of.ensures (search rules), steps_fit _ _ _ _ _ _ _ _ _ _ c.run-y.ensures c.requires.0 _ c.reply_of-reply.ensures _ c.steps_of.ensures _ c.requires.3, steps_few _ _ _ _ _ _ _ _ _ _ c.run-y.ensures c.requires.0 _ c.reply_of-reply.ensures _ c.steps_of.ensures (search rules))

pub returns : goal.returns
returns c = chunk_written _ _ _ _ _ _ _ _ _ _ c.run-y.ensures c.requires.0 _ c.reply_of-reply.ensures _ c.steps_of.ensures (search rules) _ _ _ _ _ c.put_steps-length.ensures
