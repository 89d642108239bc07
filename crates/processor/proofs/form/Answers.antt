-- `form` meets its contract. Assumes nothing.
use Rattle.std.proofs.Common.{◌≡◌, Ok, Err, rules}
use Rattle.std.proofs.lemmas.Result.{err_from_is_err_and}
use Rattle.addressing.proofs.MapErrLaws.{was_ok, was_err}
use Rattle.processor.proofs.FormLaws.{form_bad, form_ready, fetch_faults}
use Rattle.processor.proofs.form.Goals as goal

pub returns-in_err-fetched : goal.returns-in_err-fetched
returns-in_err-fetched c =
    let h = was_err _ _ _ c.map_err.ensures.cases _ c.in_err-fetched.was in
    let e : c.in_err-fetched.field-0.0 ≡ record { fault = h.0; pointer = c.args.core.ipr; read = 0 } = search rules in
    let p = err_from_is_err_and c.from_residual.result c.from_residual.ensures.1 in
    let was : c.read.result ≡ Err h.0 = h.1 in
    rw (p.1, p.2, e) (fetch_faults _ _ c.read.ensures _ was)

pub returns-in_err-address : goal.returns-in_err-address
returns-in_err-address c =
    let was : c.read.result ≡ Ok c.in_ok-fetched.fetched = was_ok _ _ _ c.map_err.ensures.cases _ c.in_ok-fetched.was in
    let p = err_from_is_err_and c.from_residual-in_err-address.result c.from_residual-in_err-address.ensures.1 in
    rw (p.1, p.2) (form_bad _ _ c.read.ensures _ was _ c.operand.ensures _ c.in_err-address.was)

pub returns : goal.returns
returns c =
    let was : c.read.result ≡ Ok c.in_ok-fetched.fetched = was_ok _ _ _ c.map_err.ensures.cases _ c.in_ok-fetched.was in
    form_ready _ _ c.read.ensures _ was _ c.operand.ensures _ c.in_ok-address.was
