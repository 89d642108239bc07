-- The loop of `read_image`. Assumes nothing.
use Rattle.std.proofs.Common.{◌≡◌, ◌<◌, length}
use Rattle.loading.specs.View.{LoadingWithin}
use Rattle.reading.proofs.read_image.Given as goal

abbrev pub invariant-loop : goal.invariant-loop
invariant-loop g l = (65536 ≡ length l.buffer) × (l.kept < 66) × (length l.store ≡ length l.initial.store) × LoadingWithin l.loading l.store
