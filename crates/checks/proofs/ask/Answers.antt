-- `ask` meets its contract. Assumes nothing.
use Rattle.std.proofs.Common.{refl, sym, ◌∙◌, arith}
use Rattle.checks.proofs.CheckLaws.{start_from_one, says_refused, pointer_fits, ring_fits, dbr_fits, says_fault, says_passes, ring_passed}
use Rattle.checks.proofs.ask.Goals as goal

pub returns-in-Err : goal.returns-in-Err
returns-in-Err c = (says_refused _ _ c.core_of-core.ensures _ _ _ (c.number.ensures ∙ c.in-Err.ensures) (λ z. let k = start_from_one c.in-Err.error in let same = c.number.ensures in absurd (omega arith)), tt)

pub raised-t-requires : goal.raised-t-requires
raised-t-requires c = (pointer_fits _ _ c.core_of-core.ensures _ _ _ c.in_default.ensures refl, ring_fits _ _ c.core_of-core.ensures _ _ _ c.in_default.ensures refl)

pub check-requires : goal.check-requires
check-requires c = dbr_fits _ _ c.core_of-core.ensures _ _ _ c.in_default.ensures refl

pub returns-in-Err-check : goal.returns-in-Err-check
returns-in-Err-check c = (rw c.number-in-Err-check.ensures (says_fault _ _ c.core_of-core.ensures _ _ _ c.in_default.ensures refl _ _ c.raised-t.ensures.0 c.check.ensures _ c.in-Err-check.is), c.raised-t.ensures.1)

pub returns-in-Ok : goal.returns-in-Ok
returns-in-Ok c = (says_passes _ _ c.core_of-core.ensures _ _ _ c.in_default.ensures refl _ _ c.raised-t.ensures.0 c.check.ensures _ c.in-Ok.is, ring_passed _ _ c.core_of-core.ensures _ _ _ c.in_default.ensures refl _ _ c.raised-t.ensures.0 c.check.ensures _ c.in-Ok.is)
