use Rattle.std.proofs.Common.{◌≡◌, true, ◌-◌, ◌≤◌, length}
use Rattle.addressing.specs.Address.{lent, through, tpr_of, KeptRight}
use Rattle.addressing.proofs.walk.Given as goal

abbrev pub invariant-loop-read : goal.invariant-loop-read
invariant-loop-read l =
    (through (64 - l.read) true (lent l.descriptors) l.memory (tpr_of l.word l.ring) ≡ through 64 true (lent l.descriptors) l.memory (tpr_of l.initial.word l.initial.ring))
    × (l.ring ≤ 7)
    × KeptRight l.descriptors (length l.memory) l.kept
