-- The loop of `put_words`: at every turn the words still to come, put behind those that are there, give the text that is wanted. Assumes nothing.
use Rattle.std.proofs.Common.{◌≡◌, ◌*◌, length, drop}
use Rattle.model.specs.Old.{words_bytes}
use Rattle.text.specs.Text.{placed}
use Rattle.old_words.proofs.put_words.Given as goal

abbrev pub invariant-loop-i : goal.invariant-loop-i
invariant-loop-i l =
    (length l.text ≡ length l.initial.text) × (placed (8 * l.i) (words_bytes (drop l.i l.words)) l.text ≡ placed 0 (words_bytes l.words) l.initial.text)
