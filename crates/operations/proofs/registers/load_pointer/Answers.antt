-- `registers::load_pointer` meets its contract. Assumes nothing.
use Rattle.std.proofs.Common.{rules}
use Rattle.operations.proofs.RegisterLaws.{pointer_finishes}
use Rattle.operations.proofs.registers.load_pointer.Goals as goal

pub returns : goal.returns
returns c = search (rules, pointer_finishes)
