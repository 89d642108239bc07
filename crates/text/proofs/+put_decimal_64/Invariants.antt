-- The measure of `put_decimal_64` is its number: its own call has the number less its last digit.
use Rattle.text.proofs.+put_decimal_64.Given as goal

abbrev pub decreases-put_decimal_64 : goal.decreases-put_decimal_64
decreases-put_decimal_64 l = l.v
