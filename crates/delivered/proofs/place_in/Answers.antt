-- `place_in` meets its contract. Assumes nothing.
use native.Mathlib.Omega.{arith}
use Rattle.delivered.proofs.place_in.Goals as goal

pub returns-then-size-i : goal.returns-then-size-i
returns-then-size-i c = (omega arith, λ h. omega arith)

pub returns : goal.returns
returns c = (omega arith, λ h. omega arith)
