-- `put_steps` meets its contract. Assumes nothing.
use Rattle.std.proofs.Common.{◌≡◌, ◌<◌, length, take, arith, rules}
use Rattle.chunks.proofs.ChunkLaws.{line_put, line_long, lines_of_steps}
use Rattle.chunks.proofs.put_steps.Goals as goal

pub loop-word-init : goal.loop-word-init
loop-word-init c = search (rules, lines_of_steps)

pub put_step-end-requires : goal.put_step-end-requires
put_step-end-requires c = search (rules, lines_of_steps)

pub loop-word-preserved : goal.loop-word-preserved
loop-word-preserved c =
    let size : length (take c.args.steps c.args.trace.now) ≡ c.args.steps = search rules in
    let more : c.loop-word.word-index < length (take c.args.steps c.args.trace.now) = search rules in
    let inv = c.loop-word.invariant in
    let number = c.next-number.ensures.1 in
    let put = c.put_step-end.ensures in (
      line_put _ _ _ _ _ inv.1 _ more (search rules) _ _ _ inv.4 number put.1 _ _ _ inv.0 put.0 inv.2 put.2 (search rules),
      line_long _ _ _ _ _ inv.1 _ more (search rules) _ _ _ inv.4 number put.1,
      search rules,
      search rules,
      search rules,
    )

pub returns : goal.returns
returns c =
    let size : length (take c.args.steps c.args.trace.now) ≡ c.args.steps = search rules in
    (search (rules, lines_of_steps), search (rules, lines_of_steps), omega (arith, c.loop-word.invariant.2))
