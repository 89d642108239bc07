-- `convert` meets its contract. Assumes nothing.
use Rattle.std.proofs.Common.{ap}
use Rattle.std.proofs.lemmas.Result.{err_from_is_err_and}
use Rattle.std.specs.Prelude.{Ok}
use borrow.Author.Rules.{rules}
use Rattle.conversion.proofs.WholeLaws.{wholes, convert_refused, convert_no_more, convert_ready}
use Rattle.conversion.proofs.convert.Goals as goal

pub convert_piece-requires : goal.convert_piece-requires
convert_piece-requires c = search (rules, wholes)

pub returns-in_err-outcome : goal.returns-in_err-outcome
returns-in_err-outcome c =
    let p = err_from_is_err_and c.from_residual.result c.from_residual.ensures.1 in
    rw (p.1, p.2)
    (convert_refused _ _ _ c.convert_piece.result _ _ _ c.nothing_loaded-loading.ensures.0 c.empty_store-store.ensures.0 c.convert_piece.ensures _ c.in_err-outcome.was)

pub returns-in-More : goal.returns-in-More
returns-in-More c =
    convert_no_more _ _ _ _ _ _ _ c.nothing_loaded-loading.ensures.0 c.empty_store-store.ensures.0 c.in_ok-outcome.ensures _ (ap Ok c.in-More.is) _

pub returns-in-Ready : goal.returns-in-Ready
returns-in-Ready c =
    convert_ready _ _ _ _ _ _ _ c.nothing_loaded-loading.ensures.0 c.empty_store-store.ensures.0 c.in_ok-outcome.ensures c.well_formed.0.1 c.if-image-lt5.false _ (ap Ok c.in-Ready.is)
