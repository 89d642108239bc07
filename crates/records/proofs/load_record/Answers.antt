-- `load_record` meets its contract. Assumes nothing.
use Rattle.records.proofs.load_record.Goals as goal

pub returns-in-Some-Memory : goal.returns-in-Some-Memory
returns-in-Some-Memory c = c.load_memory.ensures _ _ c.requires

pub returns-in-Some-Start : goal.returns-in-Some-Start
returns-in-Some-Start c = c.load_start.ensures _ _ c.requires

pub returns-in-Some-Word : goal.returns-in-Some-Word
returns-in-Some-Word c = c.load_word.ensures _
