-- A single step says what a run of one step does. Assumes nothing.
use Rattle.kuzhlemor.proofs.EntryLaws.{as_step}
use Rattle.kuzhlemor.proofs.kuzhlemor_step.Goals as goal

pub returns : goal.returns
returns c = as_step _ _ _ _ _ c.call.ensures
