-- `put_in` meets its contract. Assumes nothing.
use borrow.Author.Rules.{rules}
use Rattle.addresses.proofs.SetLaws.{put_in_members}
use Rattle.addresses.proofs.put_in.Goals as goal

pub returns : goal.returns
returns c = search (rules, put_in_members)
