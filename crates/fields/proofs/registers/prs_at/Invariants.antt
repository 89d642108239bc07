use Rattle.std.proofs.Common.{◌≡◌, take}
use Rattle.model.specs.Image.{pointers_at}
use Rattle.state.specs.View.{as_pointers}
use Rattle.fields.proofs.registers.prs_at.Given as goal

abbrev pub invariant-loop-k : goal.invariant-loop-k
invariant-loop-k l = take l.k (as_pointers l.prs) ≡ take l.k (pointers_at 8 21 l.bytes)
