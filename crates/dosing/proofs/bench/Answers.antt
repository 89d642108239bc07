-- `bench` meets its contract. Assumes nothing.
use Rattle.std.proofs.Common.{ap}
use Rattle.std.proofs.lemmas.Result.{err_from_is_err_and}
use Rattle.std.specs.Prelude.{Ok}
use Rattle.image.proofs.LoadLaws.{may_load}
use Rattle.dosing.proofs.BenchLaws.{image_refused, image_listed}
use Rattle.dosing.proofs.bench.Goals as goal

pub load-requires : goal.load-requires
load-requires c = may_load _ _ _ c.nothing_loaded-loading.ensures.0 c.empty_store-store.ensures.0

pub returns-in_err-outcome : goal.returns-in_err-outcome
returns-in_err-outcome c =
    let p = err_from_is_err_and c.from_residual.result c.from_residual.ensures.1 in
    rw (p.1, p.2)
    (image_refused _ _ _ _ c.load.result _ _ c.nothing_loaded-loading.ensures.0 c.empty_store-store.ensures.0 c.load.ensures _ c.in_err-outcome.was)

pub returns-in-Ready : goal.returns-in-Ready
returns-in-Ready c =
    image_listed _ _ _ _ _ _ _ c.nothing_loaded-loading.ensures.0 c.empty_store-store.ensures.0 c.in_ok-outcome.ensures _ (ap Ok c.in-Ready.is) _ _ c.list_loaded.ensures
