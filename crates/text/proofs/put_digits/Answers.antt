-- `put_digits` meets its contract. Assumes nothing.
use Rattle.std.proofs.Common.{rules, arith}
use Rattle.text.proofs.DigitLaws.{all_left, one_less}
use Rattle.text.proofs.put_digits.Goals as goal

pub loop-i-init : goal.loop-i-init
loop-i-init c = search (rules, all_left)

pub loop-i-preserved : goal.loop-i-preserved
loop-i-preserved c = one_less _ _ _ _ _ c.loop-i.invariant (omega arith) (omega arith)

pub returns : goal.returns
returns c = c.loop-i.invariant.none (omega arith)
