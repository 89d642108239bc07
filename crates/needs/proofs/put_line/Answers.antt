-- What `put_line` owes. Assumes nothing.
use Rattle.std.proofs.Common.{rules}
use Rattle.needs.proofs.LineLaws.{line_put}
use Rattle.needs.proofs.put_line.Goals as goal

pub returns : goal.returns
returns c = search (rules, line_put)
