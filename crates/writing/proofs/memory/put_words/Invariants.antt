-- At every turn the records that are left, put at `next`, give the text that is wanted.
use Rattle.std.proofs.Common.{◌≡◌, ◌+◌, ◌*◌, ◌≤◌, length}
use Rattle.model.specs.Write.{word_records}
use Rattle.text.specs.Text.{placed}
use Rattle.writing.proofs.WordsLaws.{records_from}
use Rattle.writing.proofs.memory.put_words.Given as goal

abbrev pub invariant-loop-k : goal.invariant-loop-k
invariant-loop-k l =
    (l.next ≤ l.at + 14 * l.k) × (placed l.next (records_from l.k l.memory) l.text ≡ placed l.at (word_records 0 l.memory) l.initial.text)
    × (l.next + length (records_from l.k l.memory) ≡ l.at + length (word_records 0 l.memory))
