-- `needs_of` meets its contract. Assumes nothing.
use Rattle.std.proofs.lemmas.Result.{err_from_is_err_and}
use Rattle.sizing.proofs.SizingLaws.{refused_by_start, figures}
use Rattle.sizing.proofs.needs_of.Goals as goal

pub returns-in_err-record_size_answer : goal.returns-in_err-record_size_answer
returns-in_err-record_size_answer c =
    let p = err_from_is_err_and c.from_residual.result c.from_residual.ensures.1 in
    rw (p.1, p.2) (refused_by_start _ _ _ _ c.record_size_answer.result c.record_size_answer.ensures _ c.in_err-record_size_answer.was)

pub returns : goal.returns
returns c = figures _ _ _ _ c.record_size_answer.result c.record_size_answer.ensures _ c.in_ok-record_size_answer.was _ c.records_in.ensures
