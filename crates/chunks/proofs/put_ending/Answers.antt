-- `put_ending` meets its contract. Assumes nothing.
use borrow.Author.Rules.{rules}
use Rattle.chunks.proofs.ChunkLaws.{endings}
use Rattle.chunks.proofs.put_ending.Goals as goal

pub overflow_add-count : goal.overflow_add-count
overflow_add-count c = search (rules, endings)

pub overflow_add-count-in-Fault : goal.overflow_add-count-in-Fault
overflow_add-count-in-Fault c = search (rules, endings)

pub put_last_line-requires-in-Fault : goal.put_last_line-requires-in-Fault
put_last_line-requires-in-Fault c = search (rules, endings)

pub returns-in-Refused : goal.returns-in-Refused
returns-in-Refused c = search (rules, endings)

pub returns-in-Spent : goal.returns-in-Spent
returns-in-Spent c = search (rules, endings)

pub returns-in-Halted : goal.returns-in-Halted
returns-in-Halted c = search (rules, endings)

pub returns-in-Fault : goal.returns-in-Fault
returns-in-Fault c = search (rules, endings)
