use mathlib.Core.Path.{◌≡◌}
use Prim.Native.Nat.{◌*◌, ◌≤◌}
use lib.ListN.{length}
use Rattle.model.specs.Doors.{doors_from, door_lines}
use Rattle.host.specs.Record.{machine_of}
use Rattle.text.specs.Text.{Put}
use Rattle.doorways.proofs.put_doors.Given as goal

abbrev pub invariant-loop-segment : goal.invariant-loop-segment
invariant-loop-segment l =
    (length l.text ≡ length l.initial.text) × (l.lines.count ≤ l.segment)
    × Put (32 * l.segment) 0 (door_lines (doors_from l.segment 0 (machine_of l.registers l.memory))) l.initial.text l.text l.lines.next
    × (l.lines.count ≡ length (doors_from l.segment 0 (machine_of l.registers l.memory)))
