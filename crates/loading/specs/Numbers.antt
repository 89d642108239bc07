-- The number of each question of an image's records. Assumes nothing: these are definitions.
use Rattle.std.specs.Prelude.{ℕ}
use Rattle.loading.specs.declared.error.LoadError.{LoadError}

abbrev pub load_number : LoadError → ℕ
load_number LoadError.CutShort = 41
load_number LoadError.OutOfPlace = 42
load_number LoadError.MemoryTooLarge = 43
load_number LoadError.AddressOutsideMemory = 44
load_number LoadError.AddressTwice = 51
