-- `put_doors` meets its contract: at every turn the lines of the segments so far are put. Assumes nothing.
use Prim.Native.Nat.{◌≤◌, ◌<◌}
use Rattle.host.specs.Record.{machine_of}
use Rattle.doorways.proofs.ListLaws.{none_so_far, lines_on, count_on, count_within, all_lines, all_counted}
use borrow.Author.Rules.{rules}
use Rattle.doorways.proofs.put_doors.Goals as goal

pub loop-segment-init : goal.loop-segment-init
loop-segment-init c = search (rules, none_so_far)

pub loop-segment-preserved : goal.loop-segment-preserved
loop-segment-preserved c =
    let known = c.loop-segment.invariant in
    let lines = c.put_segment-lines.ensures in
    let machine = machine_of c.args.registers c.args.memory.now in
    let below : c.loop-segment.segment < c.args.registers.dbr.length = search rules in (
      search rules,
      count_within _ _ _ _ _ _ known.1 lines.1,
      lines_on machine _ below _ _ _ _ _ known.2 lines.0 (search rules),
      count_on machine _ below _ _ known.3 lines.1,
    )

pub returns : goal.returns
returns c =
    let known = c.loop-segment.invariant in
    let machine = machine_of c.args.registers c.args.memory.now in
    let at_most : c.loop-segment.segment ≤ c.args.registers.dbr.length = search rules in
    let past : c.args.registers.dbr.length ≤ c.loop-segment.segment = search rules in
    (all_lines machine _ at_most past _ _ _ (search rules) known.2, all_counted machine _ at_most past _ known.3)
