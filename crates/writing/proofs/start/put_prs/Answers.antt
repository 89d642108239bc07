-- `start::put_prs` meets its contract. Assumes nothing.
use Rattle.std.proofs.Common.{rules}
use Rattle.writing.proofs.PrsLaws.{prs_to_put, prs_laws}
use Rattle.writing.proofs.start.put_prs.Goals as goal

pub loop-k-preserved : goal.loop-k-preserved
loop-k-preserved c =
    let rest = prs_to_put _ _ _ _ _ c.loop-k.invariant.1 _ _ _ (search rules) c.pr.ensures.0 (search rules) c.put_pointer-next.ensures in
    (search (rules, prs_laws), rest)

pub returns : goal.returns
returns c = search (rules, prs_laws)
