-- `registers::stored_pointer` meets its contract. Assumes nothing.
use Rattle.std.proofs.Common.{rules}
use Rattle.operations.proofs.RegisterLaws.{pr_within}
use Rattle.operations.proofs.registers.stored_pointer.Goals as goal

pub encode-requires : goal.encode-requires
encode-requires c = search (rules, pr_within)
