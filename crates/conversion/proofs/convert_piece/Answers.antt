-- `convert_piece` meets its contract. Assumes nothing.
use Rattle.std.proofs.Common.{ap}
use Rattle.std.proofs.lemmas.Result.{err_from_is_err_and}
use Rattle.std.specs.Prelude.{Ok}
use Rattle.conversion.proofs.PieceLaws.{piece_refused, piece_more, piece_judged_no, piece_ready}
use Rattle.conversion.proofs.convert_piece.Goals as goal

pub returns-in_err-outcome : goal.returns-in_err-outcome
returns-in_err-outcome c =
    let p = err_from_is_err_and c.from_residual.result c.from_residual.ensures.1 in
    rw (p.1, p.2) (piece_refused _ _ _ _ _ _ c.load.result _ _ c.load.ensures c.requires.1 c.requires.2 c.requires.3 _ c.in_err-outcome.was)

pub returns-in-More : goal.returns-in-More
returns-in-More c = piece_more _ _ _ _ _ _ _ _ _ c.in_ok-outcome.ensures c.requires.1 c.requires.2 c.requires.3 _ (ap Ok c.in-More.is)

pub returns-in_err-judge-in-Ready : goal.returns-in_err-judge-in-Ready
returns-in_err-judge-in-Ready c =
    let p = err_from_is_err_and c.from_residual-in_err-judge-in-Ready.result c.from_residual-in_err-judge-in-Ready.ensures.1 in
    rw (p.1, p.2)
    (piece_judged_no _ _ _ _ _ _ _ _ _ c.in_ok-outcome.ensures c.requires.1 c.requires.2 c.requires.3 _ (ap Ok c.in-Ready.is) c.judge.result c.judge.ensures _ c.in_err-judge-in-Ready.was)

pub returns-in_ok-judge-in-Ready : goal.returns-in_ok-judge-in-Ready
returns-in_ok-judge-in-Ready c =
    piece_ready _ _ _ _ _ _ _ _ _ c.in_ok-outcome.ensures c.requires.1 c.requires.2 c.requires.3 _ (ap Ok c.in-Ready.is) c.judge.result c.judge.ensures _ c.in_ok-judge-in-Ready.was _ _ c.renew.ensures
