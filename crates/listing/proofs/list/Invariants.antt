use mathlib.Core.Path.{◌≡◌}
use mathlib.Core.Bool.{false}
use mathlib.Core.List.{◌++◌}
use Prim.Native.Nat.{◌-◌, ◌*◌, ◌≤◌}
use lib.ListN.{length, take, drop}
use Rattle.model.specs.Questions.{start_questions}
use Rattle.state.specs.View.{as_machine, as_delivery}
use Rattle.chunks.specs.Chunk.{text_from}
use Rattle.listing.proofs.list.Given as goal

abbrev pub invariant-loop-done : goal.invariant-loop-done
invariant-loop-done l =
    (l.done ≤ l.budget) × (l.count ≤ l.done) × (l.x.is_last ≡ false) × (length l.memory ≡ length l.initial.memory) × (length l.text ≡ length l.initial.text)
    × (l.x.length ≤ length l.text) × (l.x.length ≤ 64 * (l.done - l.count)) × (drop l.x.length l.text ≡ drop l.x.length l.initial.text)
    × (start_questions (as_delivery l.delivery) (as_machine l.x.core l.prs l.memory) ≡ 0) × (l.x.total ≤ 64 * l.done)
    × (take l.x.length l.text ++ text_from (as_delivery l.delivery) (l.budget - l.done) l.done l.x.total (as_machine l.x.core l.prs l.memory) ≡ text_from (as_delivery l.delivery) (l.budget - l.count) l.count l.total (as_machine l.initial.x.core l.initial.prs l.initial.memory))

abbrev pub decreases-loop-done : goal.decreases-loop-done
decreases-loop-done l = l.budget - l.done
