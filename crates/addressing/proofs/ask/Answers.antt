-- `ask` meets its contract. Assumes nothing.
use Rattle.std.proofs.lemmas.Result.{err_from_is_err_and}
use Rattle.addressing.proofs.WalkLaws.{segment_refuses, word_refuses}
use Rattle.addressing.proofs.ask.Goals as goal

pub returns-in_err-kept : goal.returns-in_err-kept
returns-in_err-kept c =
    let p = err_from_is_err_and c.from_residual.result c.from_residual.ensures.1 in
    rw (p.1, p.2) (segment_refuses _ _ _ _ c.in_err-kept.ensures)

pub returns-in_err-word_answer : goal.returns-in_err-word_answer
returns-in_err-word_answer c =
    let at = c.from_residual-in_err-word_answer in
    let p = err_from_is_err_and at.result at.ensures.1 in
    rw (p.1, p.2) (word_refuses _ _ _ _ _ c.in_ok-kept.ensures.0 c.in_err-word_answer.ensures)
