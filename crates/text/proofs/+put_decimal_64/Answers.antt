-- The digits before the last are put by its own call.
use Rattle.std.proofs.Common.{◌≤◌, rules, arith}
use Rattle.text.proofs.DigitLaws.{last_digit_laws}
use Rattle.text.proofs.+put_decimal_64.Goals as goal

pub bounds-text-end : goal.bounds-text-end
bounds-text-end t c = let least : 4294967296 ≤ c.args.v = omega (arith, c.in_default.ensures) in search (rules, last_digit_laws)

pub returns : goal.returns
returns t c = let least : 4294967296 ≤ c.args.v = omega (arith, c.in_default.ensures) in search (rules, last_digit_laws)
