-- `frame_word` meets its contract. Assumes nothing.
use Rattle.std.proofs.Common.{rules}
use Rattle.frames.proofs.FrameLaws.{pr_words}
use Rattle.frames.proofs.frame_word.Goals as goal

pub encode-requires-in_default : goal.encode-requires-in_default
encode-requires-in_default c = search (rules, pr_words)

pub returns-in_default : goal.returns-in_default
returns-in_default c = search (rules, pr_words)
