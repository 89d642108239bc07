-- `table::entry_of` meets its contract. Assumes nothing.
use Rattle.std.proofs.Common.{rules}
use Rattle.opcodes.proofs.OpcodeLaws.{entries}
use Rattle.opcodes.proofs.table.entry_of.Goals as goal

pub returns-then-k-ge64 : goal.returns-then-k-ge64
returns-then-k-ge64 c = search (rules, entries)

pub returns : goal.returns
returns c = search (rules, entries)
