use Rattle.std.proofs.Common.{◌≡◌}
use Rattle.restore.proofs.TakeLaws.{all_at_least, rest_at_least}
use Rattle.restore.proofs.are_at_least.Given as goal

abbrev pub invariant-loop-k : goal.invariant-loop-k
invariant-loop-k l = all_at_least l.ring l.frame ≡ rest_at_least l.ring l.k l.frame
