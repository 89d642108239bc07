-- `list_loaded` meets its contract. Assumes nothing.
use Rattle.std.proofs.Common.{rules, arith}
use Rattle.std.proofs.lemmas.Result.{err_from_is_err_and}
use Rattle.dosing.proofs.BenchLaws.{not_started, lists}
use Rattle.dosing.proofs.list_loaded.Goals as goal

pub returns-in_err-record_answer : goal.returns-in_err-record_answer
returns-in_err-record_answer c =
    let p = err_from_is_err_and c.from_residual.result c.from_residual.ensures.1 in
    rw (p.1, p.2) (not_started _ _ _ _ c.record_answer.result c.record_answer.ensures _ c.in_err-record_answer.was)

pub returns : goal.returns
returns c =
    lists _ _ _ _ c.record_answer.result c.record_answer.ensures _ c.in_ok-record_answer.was _ c.core_of-core.ensures _ _ c.list_whole.ensures (omega arith) (omega arith)
