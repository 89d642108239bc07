-- `judge::next_row` meets its contract. Assumes nothing.
use Rattle.std.proofs.Common.{rules}
use Rattle.std.proofs.lemmas.Iterator.{YieldsList-from_slice}
use Rattle.std.proofs.lemmas.Iterator.Search.{position_from_yields_List}
use Rattle.model.specs.Brackets as Brackets
use Rattle.tables.specs.View.{as_row}
use Rattle.tables.proofs.RowLaws.{first_row}
use Rattle.tables.proofs.judge.next_row.Goals as goal

pub returns : goal.returns
returns c =
    first_row c.args.segment c.args.rows.now c.position.result
    (position_from_yields_List (λ x. Brackets.in_row c.args.segment (as_row x)) _ _ c.position.result c.position.ensures.ran (YieldsList-from_slice c.args.rows.now (cc)) (λ x b q k. search rules))
