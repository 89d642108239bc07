-- `start::is_start` meets its contract. Assumes nothing.
use Rattle.compaction.proofs.StartLaws.{other_is_none}
use Rattle.compaction.proofs.start.is_start.Goals as goal

pub returns-in_default-matches : goal.returns-in_default-matches
returns-in_default-matches c = other_is_none _ _ c.in-Some.ensures c.in_default-matches.not-Start
