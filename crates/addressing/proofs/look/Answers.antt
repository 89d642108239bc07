-- `look` meets its contract. Assumes nothing.
use Rattle.std.proofs.Common.{refl, ltb-true}
use Rattle.std.proofs.lemmas.Result.{err_from_is_err_and}
use Rattle.addressing.proofs.WalkLaws.{look_no}
use Rattle.addressing.proofs.look.Goals as goal

pub returns-in_err-descriptor_answer : goal.returns-in_err-descriptor_answer
returns-in_err-descriptor_answer c =
    let at = c.from_residual-in_err-descriptor_answer in
    let p = err_from_is_err_and at.result at.ensures.1 in
    rw (p.1, p.2) (look_no _ _ _ _ _ (ltb-true _ _ c.in_ok-answer.ensures) refl c.in_err-descriptor_answer.ensures)
