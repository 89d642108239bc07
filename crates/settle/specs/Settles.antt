-- How a step ends that stopped. Assumes nothing: these are definitions.
use Rattle.std.specs.Prelude.{◌≡◌, ℕ}
use Rattle.model.specs.Registers.{Delivery, Machine}
use Rattle.model.specs.Deliver.{step_with}
use Rattle.words.specs.View.{PointerWithin}
use Rattle.state.specs.View.{ended}
use Rattle.state.specs.declared.End.{End}
use Rattle.state.specs.declared.End.TheVariants.{Completed, Halted, Faulted}
use Rattle.restore.specs.declared.Settled.{Settled}

-- a fault's pointer fits the host's record
abbrev pub EndWithin : End → Type 0
EndWithin Completed = Unit {0}
EndWithin Halted = Unit {0}
EndWithin (Faulted n t) = PointerWithin t

-- the step, its fault delivered where it can be
pub record Settles (v : Delivery) (m : Machine) (x : Settled) (k : Machine) : Type 0 where
  pub ends : ended m (step_with v m) x.end k
  pub within : EndWithin x.end
