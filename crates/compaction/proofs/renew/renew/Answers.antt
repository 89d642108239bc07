-- `renew::renew` meets its contract. Assumes nothing.
use borrow.Author.Rules.{rules}
use Rattle.compaction.proofs.StartLaws.{renews}
use Rattle.compaction.proofs.renew.renew.Goals as goal

pub compact-kept-requires : goal.compact-kept-requires
compact-kept-requires c = search rules

pub add_zeros-requires : goal.add_zeros-requires
add_zeros-requires c = search rules

pub returns : goal.returns
returns c = search (rules, renews)
