-- `go_on` meets its contract. Assumes nothing.
use Rattle.run.proofs.TurnLaws.{turning_starts, turn_ends, turn_pointers, turn_needs, turn_passes, turn_ipr, turn_faults, turn_halts, turn_code, turn_stops, turn_goes_on}
use Rattle.run.proofs.go_on.Goals as goal

pub loop-going-init : goal.loop-going-init
loop-going-init c = turning_starts _ _ _ _ _ _ _ _ _ c.requires.0 c.requires.1 c.requires.2 c.requires.3

pub perform-x-requires : goal.perform-x-requires
perform-x-requires c = turn_needs _ _ _ _ _ _ _ _ _ _ _ _ _ _ c.loop-going.invariant c.loop-going-test.true

pub note-requires : goal.note-requires
note-requires c = (turn_ipr _ _ _ _ _ _ _ _ _ _ _ _ _ _ c.loop-going.invariant c.loop-going-test.true _ _ _ c.perform-x.ensures, turn_pointers _ _ _ _ _ _ _ _ _ _ _ _ _ _ c.loop-going.invariant c.loop-going-test.true)

pub note-requires-in-Halted : goal.note-requires-in-Halted
note-requires-in-Halted c = (turn_ipr _ _ _ _ _ _ _ _ _ _ _ _ _ _ c.loop-going.invariant c.loop-going-test.true _ _ _ c.perform-x.ensures, turn_pointers _ _ _ _ _ _ _ _ _ _ _ _ _ _ c.loop-going.invariant c.loop-going-test.true)

pub returns-in-Halted : goal.returns-in-Halted
returns-in-Halted c = turn_halts _ _ _ _ _ _ _ _ _ _ _ _ _ _ c.loop-going.invariant c.loop-going-test.true _ _ _ c.perform-x.ensures _ c.note-in-Halted.ensures c.in-Halted.is

pub returns-in-Faulted : goal.returns-in-Faulted
returns-in-Faulted c = turn_faults _ _ _ _ _ _ _ _ _ _ _ _ _ _ c.loop-going.invariant c.loop-going-test.true _ _ _ c.perform-x.ensures _ _ c.in-Faulted.is

pub next-requires : goal.next-requires
next-requires c = (turn_passes _ _ _ _ _ _ _ _ _ _ _ _ _ _ c.loop-going.invariant c.loop-going-test.true _ _ _ c.perform-x.ensures, turn_code _ _ _ _ _ _ _ _ _ _ _ _ _ _ c.loop-going.invariant c.loop-going-test.true _ _ _ c.perform-x.ensures _ c.note.ensures c.in-Completed.is)

pub loop-going-preserved-in-None : goal.loop-going-preserved-in-None
loop-going-preserved-in-None c = turn_stops _ _ _ _ _ _ _ _ _ _ _ _ _ _ c.loop-going.invariant c.loop-going-test.true _ _ _ c.perform-x.ensures _ c.note.ensures c.in-Completed.is _ _ _

pub loop-going-preserved : goal.loop-going-preserved
loop-going-preserved c = turn_goes_on _ _ _ _ _ _ _ _ _ _ _ _ _ _ c.loop-going.invariant c.loop-going-test.true _ _ _ c.perform-x.ensures _ c.note.ensures c.in-Completed.is _ _ c.next.ensures c.in-Some.is

pub returns : goal.returns
returns c = turn_ends _ _ _ _ _ _ _ _ _ _ _ _ _ _ c.loop-going.invariant c.loop-going-test.false
