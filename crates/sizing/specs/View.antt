-- An image's needs, as the model's. Assumes nothing: these are definitions.
use Rattle.std.specs.Prelude.{ℕ, Result, Ok, Err}
use Rattle.model.specs.Needs as Model
use Rattle.sizing.specs.declared.Needs.{Needs}

abbrev pub as_needs : Needs → Model.Needs
as_needs x =
    record { number = x.number; memory = x.memory; records = x.records; budget = x.budget; lines = x.lines; pointers = x.pointers }

-- or the number of the question that refused
abbrev pub needs_by : {E : Type 0} → (number : E → ℕ) → Result Needs E → Model.Needs
needs_by number (Ok x) = as_needs x
needs_by number (Err error) = Model.needs_refused (number error)
