-- The loop of `print_listing`. Assumes nothing.
use Rattle.std.proofs.Common.{◌≡◌, ◌*◌, ◌≤◌, length}
use Rattle.model.specs.Questions.{start_questions}
use Rattle.state.specs.View.{as_machine, as_delivery}
use Rattle.simulate.proofs.print_listing.Given as goal

abbrev pub invariant-loop : goal.invariant-loop
invariant-loop g l =
    (65536 ≡ length l.text) × (l.x.count ≤ l.budget) × (length l.memory ≡ length l.initial.memory)
    × (start_questions (as_delivery l.delivery) (as_machine l.x.line.core l.prs l.memory) ≡ 0) × (l.x.line.total ≤ 64 * l.x.count)
