-- `put::by_row` meets its contract. Assumes nothing.
use Rattle.tables.proofs.PutLaws.{own_row_fits, word_by_own_row}
use Rattle.tables.proofs.put.by_row.Goals as goal

pub with_bits-requires : goal.with_bits-requires
with_bits-requires c = own_row_fits _ _ _ _ _ _ c.in-Some.ensures c.bracket_bits.ensures c.requires

pub returns-in-Some : goal.returns-in-Some
returns-in-Some c = word_by_own_row _ _ c.args.segments _ _ _ c.in-Some.ensures c.bracket_bits.ensures c.args.word _ c.with_bits.ensures
