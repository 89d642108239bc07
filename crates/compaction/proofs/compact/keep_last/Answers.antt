-- `compact::keep_last` meets its contract. Assumes nothing.
use Rattle.std.proofs.Common.{arith}
use Rattle.compaction.proofs.CompactLaws.{one_in_buffer, kept_fits, one_fits, one_less, all_compacted}
use Rattle.compaction.proofs.compact.keep_last.Goals as goal

pub move_bytes-requires : goal.move_bytes-requires
move_bytes-requires c =
    let inside = one_in_buffer c.loop-record.invariant c.in-Some.ensures in
    (inside, omega (arith, inside, c.loop-record.invariant.to_within))

pub overflow_add-to : goal.overflow_add-to
overflow_add-to c = kept_fits c.loop-record.invariant c.in-Some.ensures c.ranges.end

pub overflow_add-from : goal.overflow_add-from
overflow_add-from c = one_fits c.loop-record.invariant c.in-Some.ensures c.ranges.end

pub loop-record-smaller : goal.loop-record-smaller
loop-record-smaller c = one_less c.loop-record.invariant c.in-Some.ensures

pub returns : goal.returns
returns c = all_compacted c.loop-record.invariant c.in_default.ensures _ c.move_bytes-2.ensures
