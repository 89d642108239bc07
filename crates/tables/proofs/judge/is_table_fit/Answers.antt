-- `judge::is_table_fit` meets its contract. Assumes nothing.
use Rattle.std.proofs.Common.{rules}
use Rattle.std.proofs.lemmas.Iterator.{YieldsList-from_slice}
use Rattle.std.proofs.lemmas.Iterator.Search.{all_from_yields_List}
use Rattle.model.specs.Brackets as Brackets
use Rattle.tables.specs.View.{as_row}
use Rattle.tables.proofs.JudgeLaws.{fits_by_rows, too_many_rows}
use Rattle.tables.proofs.judge.is_table_fit.Goals as goal

pub returns-then-rows-le-MOST_ROWS : goal.returns-then-rows-le-MOST_ROWS
returns-then-rows-le-MOST_ROWS c =
    fits_by_rows _ _ _ c.if-rows-le-MOST_ROWS.true
    (all_from_yields_List (λ x. Brackets.row_fits c.args.segments (as_row x)) _ _ c.all.result c.all.ensures.ran (YieldsList-from_slice c.args.rows.now (cc)) (λ x b q k. search rules))

pub returns-else-rows-le-MOST_ROWS : goal.returns-else-rows-le-MOST_ROWS
returns-else-rows-le-MOST_ROWS c = too_many_rows _ _ c.if-rows-le-MOST_ROWS.false
