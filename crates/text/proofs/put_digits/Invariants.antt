use Rattle.model.specs.Listing.{decimal}
use Rattle.text.specs.Text.{placed}
use Rattle.text.proofs.DigitLaws.{DigitsLeft}
use Rattle.text.proofs.put_digits.Given as goal

abbrev pub invariant-loop-i : goal.invariant-loop-i
invariant-loop-i l = DigitsLeft l.left l.at l.i l.text (placed l.at (decimal l.v) l.initial.text)
