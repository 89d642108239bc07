-- `load::load` meets its contract. Assumes nothing.
use Rattle.std.proofs.Common.{ap, refl}
use Rattle.std.specs.Prelude.{Ok}
use Rattle.std.proofs.lemmas.Result.{err_from_is_err_and}
use Rattle.image.proofs.LoadLaws.{no_record_yet, last_refused, last_ready, one_more}
use Rattle.image.proofs.load.load.Goals as goal

pub loop-outcome-init : goal.loop-outcome-init
loop-outcome-init c = no_record_yet _ _ _ _ c.requires

pub returns-in_err-outcome : goal.returns-in_err-outcome
returns-in_err-outcome c =
    let p = err_from_is_err_and c.from_residual.result c.from_residual.ensures.1 in
    rw (p.1, p.2) (last_refused c.loop-outcome.invariant c.in_err-outcome.ensures _ refl)

pub loop-outcome-preserved : goal.loop-outcome-preserved
loop-outcome-preserved c = one_more c.loop-outcome.invariant c.in_ok-outcome.ensures (ap Ok c.in-Next.is)

pub returns-in-Ready : goal.returns-in-Ready
returns-in-Ready c = last_ready c.loop-outcome.invariant c.in_ok-outcome.ensures _ (ap Ok c.in-Ready.is)
