-- At every turn the bytes of what is left, put at `at`, give the text that is wanted.
use Rattle.std.proofs.Common.{◌≡◌, ◌-◌}
use Rattle.model.specs.Write.{bytes}
use Rattle.text.specs.Text.{placed}
use Rattle.writing.proofs.number.put_number.Given as goal

abbrev pub invariant-loop-i : goal.invariant-loop-i
invariant-loop-i l = placed l.at (bytes (l.i - l.at) l.left) l.text ≡ placed l.at (bytes l.n l.v) l.initial.text
