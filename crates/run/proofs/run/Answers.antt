-- `run` meets its contract. Assumes nothing.
use mathlib.Core.Path.{refl}
use native.Mathlib.Omega.{arith}
use Rattle.state.proofs.PassingLaws.{prs_in_range, ready_passing}
use Rattle.run.proofs.RunLaws.{way_starts, way_faults, way_joins, way_ends, way_spent, fault_within, answers}
use Rattle.run.proofs.run.Goals as goal

pub loop-count-init : goal.loop-count-init
loop-count-init c = (way_starts _ _ _ _ _ _ (omega arith) c.requires, omega arith)

pub form-requires : goal.form-requires
form-requires c = (ready_passing _ _ _ _ c.loop-count.invariant.0.passes, prs_in_range _ _ _ _ c.loop-count.invariant.0.passes)

pub returns-in-Err : goal.returns-in-Err
returns-in-Err c = let q = rw c.in-Err.is at c.form.ensures in rw c.number.ensures (answers _ _ _ _ _ _ _ _ (way_faults _ _ _ _ _ _ _ _ _ _ c.loop-count.invariant.0 c.loop-count-test.true _ q.1 _ _ _ q.0 refl) (fault_within _ _ _ c.loop-count.invariant.0.passes q.0))

pub go_on-y-requires : goal.go_on-y-requires
go_on-y-requires c = let q = rw c.in-Ok.is at c.form.ensures in (c.loop-count.invariant.0.passes, q.0, q.1, c.loop-count-test.true)

pub loop-count-preserved : goal.loop-count-preserved
loop-count-preserved c = let q = rw c.in-Completed.is at c.go_on-y.ensures.led in (way_joins _ _ _ _ _ _ _ _ _ _ c.loop-count.invariant.0 _ _ _ _ q.0, omega (arith, c.loop-count.invariant.1, c.go_on-y.ensures.read_within, q.1))

pub returns-in-Halted : goal.returns-in-Halted
returns-in-Halted c = answers _ _ _ _ _ _ _ _ (way_ends _ _ _ _ _ _ _ _ _ _ c.loop-count.invariant.0 _ _ _ _ _ _ (rw c.in-Halted.is at c.go_on-y.ensures.led)) tt

pub returns-in-Faulted : goal.returns-in-Faulted
returns-in-Faulted c = let q = rw c.in-Faulted.is at c.go_on-y.ensures.led in answers _ _ _ _ _ _ _ _ (way_ends _ _ _ _ _ _ _ _ _ _ c.loop-count.invariant.0 _ _ _ _ _ _ q.0) q.1

pub returns : goal.returns
returns c = answers _ _ _ _ _ _ _ _ (way_spent _ _ _ _ _ _ _ _ _ _ c.loop-count.invariant.0 c.loop-count-test.false) tt
