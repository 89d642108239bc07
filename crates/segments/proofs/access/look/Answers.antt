-- `access::look` meets its contract. Assumes nothing.
use Rattle.std.proofs.lemmas.Result.{err_from_is_err_and}
use Rattle.segments.proofs.UseLaws.{use_refuses}
use Rattle.segments.proofs.access.look.Goals as goal

pub returns-in_err-use_answer : goal.returns-in_err-use_answer
returns-in_err-use_answer c =
    let at = c.from_residual-in_err-use_answer in
    let p = err_from_is_err_and at.result at.ensures.1 in
    rw (p.1, p.2) (use_refuses _ _ _ _ _ c.in_ok-d.ensures _ c.in_err-use_answer.ensures)
