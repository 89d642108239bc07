-- A lent row as the model's, and DBR by its two parts. Assumes nothing: these are definitions.
use Rattle.std.specs.Prelude.{List, map, ℕ}
use Rattle.model.specs.Registers.{Dbr}
use Rattle.model.specs.Brackets as Brackets
use Rattle.tables.specs.declared.row.Row.{Row}

unfoldable pub as_row : Row → Brackets.Row
as_row x =
    record {
      first = x.first;
      last = x.last;
      r1 = x.r1;
      r2 = x.r2;
      r3 = x.r3;
      read = x.read;
      write = x.write;
      execute = x.execute;
    }

abbrev pub as_rows : List Row → List Brackets.Row
as_rows xs = map as_row xs

abbrev pub base : (address length : ℕ) → Dbr
base a l = record { address = a; length = l }
