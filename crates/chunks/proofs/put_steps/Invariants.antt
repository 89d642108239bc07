-- At every turn the lines of the steps before are put, and the last one's number is kept.
use Rattle.std.proofs.Common.{◌≡◌, ◌+◌, ◌*◌, ◌≤◌, length, take}
use Rattle.model.specs.Listing.{step_lines}
use Rattle.run.specs.Run.{noted_steps}
use Rattle.text.specs.Text.{placed}
use Rattle.lines.specs.Kept.{Kept}
use Rattle.chunks.proofs.put_steps.Given as goal

abbrev pub invariant-loop-word : goal.invariant-loop-word
invariant-loop-word l =
    (l.text ≡ placed l.at (step_lines l.count (noted_steps (take l.word-index l.noted))) l.initial.text) × (l.end ≡ l.at + length (step_lines l.count (noted_steps (take l.word-index l.noted))))
    × (l.end ≤ l.at + 64 * l.word-index) × Kept l.tens l.number × (l.number.value ≡ l.count + l.word-index)
