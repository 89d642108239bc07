-- The verdict of CALL's check and its numbers as the model's. Assumes nothing: these are definitions.
use Rattle.std.specs.Prelude.{◌≤◌}
use Rattle.model.specs.Answers.{CheckNumbers}
use Rattle.model.specs.Check as Model
use Rattle.words.specs.View.{as_pointer, PointerWithin}
use Rattle.host.specs.Record.{pointer_of}
use Rattle.checks.specs.declared.Check.{Check}
use Rattle.checks.specs.declared.Verdict.{Verdict}
use Rattle.checks.specs.declared.Verdict.TheVariants.{Refused, Fault, Passes}

abbrev pub as_check : Verdict → Model.Check
as_check (Refused n) = Model.refused n
as_check (Fault n t) = Model.fault n (as_pointer t)
as_check (Passes r) = Model.passes r

-- what it holds fits a line and a record
abbrev pub VerdictWithin : Verdict → Type 0
VerdictWithin (Refused n) = Unit {0}
VerdictWithin (Fault n t) = PointerWithin t
VerdictWithin (Passes r) = r ≤ 7

abbrev pub as_numbers : Check → CheckNumbers
as_numbers x = record { kind = x.kind; number = x.number; ring = x.ring; pointer = pointer_of x.pointer }
