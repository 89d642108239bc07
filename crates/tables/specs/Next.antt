-- The next row that a segment is in. Assumes nothing: these are definitions.
use Rattle.std.specs.Prelude.{◌≡◌, List, [], ◌∷◌, ℕ, ◌+◌, ◌<◌, length, get_or, drop, Option, MatchOption}
use Rattle.model.specs.Brackets.{rows_of}
use Rattle.tables.specs.declared.row.Row.{Row}
use Rattle.tables.specs.View.{as_row, as_rows}

-- the row at i is the first that a segment is in
pub record RowAt (s : ℕ) (xs : List Row) (i : ℕ) : Type 0 where
  pub within : i < length xs
  pub its_rows : (d : Row) → rows_of s (as_rows xs) ≡ as_row (get_or xs i d) ∷ rows_of s (as_rows (drop (i + 1) xs))

abbrev pub NextRow : (segment : ℕ) → List Row → Option ℕ → Type 0
NextRow s xs place = MatchOption place (rows_of s (as_rows xs) ≡ []) (λ i. RowAt s xs i)
