-- `number::put_number` meets its contract. Assumes nothing.
use Rattle.std.proofs.Common.{rules}
use Rattle.writing.proofs.NumberLaws.{number_laws}
use Rattle.writing.proofs.number.put_number.Goals as goal

pub loop-i-init : goal.loop-i-init
loop-i-init c = search (rules, number_laws)

pub loop-i-preserved : goal.loop-i-preserved
loop-i-preserved c = search (rules, number_laws)

pub returns : goal.returns
returns c = search (rules, number_laws)
