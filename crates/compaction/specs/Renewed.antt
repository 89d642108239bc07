-- A buffer whose front was made today's. Assumes nothing: these are definitions.
use Rattle.std.specs.Prelude.{◌≡◌, List, ◌++◌, ℕ, ◌+◌, ◌≤◌, length, take, drop}
use Rattle.model.specs.Image.{stored}
use Rattle.model.specs.Convert.{records, kept_of, start_end, with_zeros_at}

-- bytes with five zeros where their ST ends
unfoldable pub with_zeros : List ℕ → List ℕ
with_zeros bs = with_zeros_at (start_end (records stored bs)) bs

-- what comes after the n bytes is as it was
pub record ZerosAdded (end : ℕ) (entry : List ℕ) (n : ℕ) (exit : List ℕ) : Type 0 where
  pub size : n ≡ end + 5
  pub bytes : exit ≡ with_zeros (take end entry) ++ drop n entry

pub record Renewed (end : ℕ) (entry : List ℕ) (n : ℕ) (exit : List ℕ) : Type 0 where
  pub size : n ≡ length (with_zeros (kept_of (take end entry)))
  pub within : n ≤ end + 5
  pub bytes : exit ≡ with_zeros (kept_of (take end entry)) ++ drop n entry
