-- `door::last_gate` meets its contract. Assumes nothing.
use Rattle.doorways.proofs.DoorLaws.{has_gate, has_word}
use borrow.Author.Rules.{rules}
use Rattle.doorways.proofs.door.last_gate.Goals as goal

pub overflow_sub-result : goal.overflow_sub-result
overflow_sub-result c = search (rules, has_gate)

pub overflow_sub-result-2 : goal.overflow_sub-result-2
overflow_sub-result-2 c = search (rules, has_word)
