-- What is left of a program once its operand is read. Assumes nothing: these are definitions.
use Rattle.std.specs.Prelude.{ℕ}
use Rattle.model.specs.Words.{Pointer}
use Rattle.model.specs.Registers.{Registers, dbr_in, with_dbr, advanced}
use Rattle.model.specs.Program.{Program, finish}
use Rattle.model.specs.Step as Step

-- LDBR: 34 in a memory of that size, then DBR becomes the word's
unfoldable pub sets_dbr : (size word : ℕ) → Pointer → Registers → Program
sets_dbr n w t r = Step.if_dbr_fits n (dbr_in w) t (finish (advanced (with_dbr (dbr_in w) r)))
