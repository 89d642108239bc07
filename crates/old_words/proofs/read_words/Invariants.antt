-- The loop of `read_words`: at every turn the words so far are those of the bytes so far. Assumes nothing.
use Rattle.std.proofs.Common.{◌≡◌, ◌*◌, ◌≤◌, length}
use Rattle.old_words.proofs.WordsLaws.{ReadSoFar}
use Rattle.old_words.proofs.read_words.Given as goal

abbrev pub invariant-loop-i : goal.invariant-loop-i
invariant-loop-i l = ReadSoFar l.i l.words l.bytes
