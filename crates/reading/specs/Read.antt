-- What reading an image leaves. Assumes nothing: these are definitions.
use Rattle.std.specs.Prelude.{◌≡◌, ℕ, ◌≤◌, ◌⊎◌, List, length, replicate, Result, Ok, Err}
use Rattle.reading.specs.declared.Read.{Read}
use Rattle.reading.specs.declared.error.ReadError.{ReadError}

-- what is lent: memory and the set of addresses, or for an image's needs the set alone
unfoldable pub ZerosLent : (store : List ℕ) → Type 0
ZerosLent m = (m ≡ replicate 8320 0) ⊎ (m ≡ replicate 128 0)

-- the image's memory is the front of what is lent
abbrev pub WordsWithin : Result Read ReadError → (store : List ℕ) → Type 0
WordsWithin (Err e) m = Unit {0}
WordsWithin (Ok x) m = length m ≡ 8320 → x.start.words ≤ length m
