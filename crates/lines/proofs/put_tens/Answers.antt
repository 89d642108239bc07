-- `put_tens` meets its contract. Assumes nothing.
use borrow.Author.Rules.{rules}
use Rattle.parts.proofs.BytesLaws.{ninth_byte_put}
use Rattle.lines.proofs.put_tens.Goals as goal

pub returns-then-width-gt8 : goal.returns-then-width-gt8
returns-then-width-gt8 c = search (rules, ninth_byte_put)
