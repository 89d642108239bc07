-- `registers::load_literal` meets its contract. Assumes nothing.
use Rattle.std.proofs.Common.{rules}
use Rattle.operations.proofs.RegisterLaws.{literal_finishes}
use Rattle.operations.proofs.registers.load_literal.Goals as goal

pub returns : goal.returns
returns c = search (rules, literal_finishes)
