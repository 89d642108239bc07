-- A buffer after some of its bytes were moved, or became zero. Assumes nothing: these are definitions.
use Rattle.std.specs.Prelude.{List, ◌++◌, ℕ, ◌+◌, take, drop, replicate}

-- `size` bytes at `from` stand at `to`, and all others where they stood
unfoldable pub bytes_moved : (from to size : ℕ) → (buffer : List ℕ) → List ℕ
bytes_moved from to size buffer = take to buffer ++ take size (drop from buffer) ++ drop (to + size) buffer

-- `size` bytes at `at` are zero, and all others as they were
unfoldable pub cleared : (at size : ℕ) → (buffer : List ℕ) → List ℕ
cleared at size buffer = take at buffer ++ replicate size 0 ++ drop (at + size) buffer
