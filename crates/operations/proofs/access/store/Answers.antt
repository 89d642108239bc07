-- `access::store` meets its contract. Assumes nothing.
use Rattle.std.proofs.Common.{refl, rules}
use Rattle.operations.proofs.AccessLaws.{store_refused, store_completes}
use Rattle.operations.proofs.access.store.Goals as goal

pub returns-in-Err : goal.returns-in-Err
returns-in-Err c = store_refused _ _ _ _ _ _ _ _ refl _ c.write-written.ensures _ c.in-Err.is (search rules)

pub returns : goal.returns
returns c = store_completes _ _ _ _ _ _ _ _ refl _ c.write-written.ensures (search rules) (search rules)
