-- `raised` meets its contract. Assumes nothing.
use Rattle.checks.proofs.CheckLaws.{raised_same, raised_within}
use Rattle.checks.proofs.raised.Goals as goal

pub returns : goal.returns
returns c = let w = c.requires.0 in (raised_same _ _ _ c.max-ring.ensures, record { ring_within = raised_within _ _ _ c.max-ring.ensures w c.requires.1; segment_within = w.segment_within; word_within = w.word_within })
