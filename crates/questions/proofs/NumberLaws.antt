-- No fault's number is 0, which is a yes. Assumes nothing.
use Rattle.std.proofs.Common.{◌≡◌, ℕ, ◌≤◌, Result, Ok, Err, arith}
use Rattle.questions.specs.Numbers.{fault_number, number_by}
use Rattle.questions.specs.declared.fault.Fault.{Fault}

pub fault_from_one : (e : Fault) → 1 ≤ fault_number e
fault_from_one Fault.NoDescriptor = omega arith
fault_from_one e = omega arith
