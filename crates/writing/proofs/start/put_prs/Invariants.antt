-- At every turn the PRs that are left, put at `next`, give the text that is wanted.
use Rattle.std.proofs.Common.{◌≡◌, ◌+◌, ◌*◌}
use Rattle.model.specs.Write.{pointers_bytes}
use Rattle.state.specs.View.{as_pointers}
use Rattle.text.specs.Text.{placed}
use Rattle.writing.proofs.PrsLaws.{prs_from}
use Rattle.writing.proofs.start.put_prs.Given as goal

abbrev pub invariant-loop-k : goal.invariant-loop-k
invariant-loop-k l =
    (l.next ≡ l.at + 5 * l.k) × (placed l.next (prs_from l.k l.prs) l.text ≡ placed l.at (pointers_bytes (as_pointers l.prs)) l.initial.text)
