-- `word::may_write` meets its contract. Assumes nothing.
use Rattle.loading.proofs.SetLaws.{stored_asks_nothing, new_put}
use Rattle.loading.proofs.word.may_write.Goals as goal

pub returns-in-Stored : goal.returns-in-Stored
returns-in-Stored c = stored_asks_nothing _ _ _ c.in-Stored.is

pub returns-else-is_in : goal.returns-else-is_in
returns-else-is_in c = new_put _ _ _ _ c.set_start-at.ensures c.in-Today.is _ c.is_in.ensures c.if-is_in.false _ c.put_in.ensures
