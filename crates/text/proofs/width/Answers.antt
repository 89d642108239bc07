-- `width` meets its contract. Assumes nothing.
use Rattle.std.proofs.Common.{rules}
use Rattle.text.proofs.DecimalLaws.{length_decimal_digit, length_decimal_log}
use Rattle.text.proofs.width.Goals as goal

pub returns-in-Some : goal.returns-in-Some
returns-in-Some c = search (rules, length_decimal_log)

pub returns-in-None : goal.returns-in-None
returns-in-None c = search (rules, length_decimal_digit)
