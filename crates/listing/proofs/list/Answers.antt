-- `list` meets its contract. Assumes nothing.
use borrow.Author.Rules.{rules}
use Rattle.listing.proofs.ListedLaws.{lines_of_a_run, next_far, next_few}
use Rattle.listing.proofs.list.Goals as goal

pub loop-done-init : goal.loop-done-init
loop-done-init c = search (rules, lines_of_a_run)

pub returns-then-room-lt128 : goal.returns-then-room-lt128
returns-then-room-lt128 c = search (rules, lines_of_a_run)

pub list_chunk-x-requires : goal.list_chunk-x-requires
list_chunk-x-requires c = search (rules, lines_of_a_run)

pub returns-then-x : goal.returns-then-x
returns-then-x c = search (rules, lines_of_a_run)

pub loop-done-preserved : goal.loop-done-preserved
loop-done-preserved c =
    (search (rules, lines_of_a_run), search (rules, lines_of_a_run), search (rules, lines_of_a_run), search (rules, lines_of_a_run), search (rules, lines_of_a_run), search (rules, lines_of_a_run), next_far _ c.list_chunk-x.ensures (search rules) (search rules) (search rules), search (rules, lines_of_a_run), search (rules, lines_of_a_run), next_few c.list_chunk-x.ensures (search rules), search (rules, lines_of_a_run))

pub returns-then-text-length-ge64 : goal.returns-then-text-length-ge64
returns-then-text-length-ge64 c = search (rules, lines_of_a_run)

pub returns-else-text-length-ge64 : goal.returns-else-text-length-ge64
returns-else-text-length-ge64 c = search (rules, lines_of_a_run)
