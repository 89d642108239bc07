-- The loop of `convert_input`. Assumes nothing.
use Rattle.std.proofs.Common.{◌≡◌, length}
use Rattle.convert.specs.Turn.{TurnWithin}
use Rattle.convert.proofs.convert_input.Given as goal

abbrev pub invariant-loop : goal.invariant-loop
invariant-loop g l = (length l.buffer ≡ length l.initial.buffer) × TurnWithin l.loading l.room l.store l.buffer
