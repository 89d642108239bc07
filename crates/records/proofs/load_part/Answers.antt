-- `load_part` meets its contract. Assumes nothing.
use borrow.Author.Rules.{rules}
use Rattle.records.proofs.PartLaws.{parts}
use Rattle.records.proofs.RecordLaws.{waits}
use Rattle.records.proofs.load_part.Goals as goal

pub returns-then-not-ended : goal.returns-then-not-ended
returns-then-not-ended c = λ m h. search (rules, parts, waits)
