-- A buffer whose front was compacted. Assumes nothing: these are definitions.
use Rattle.std.specs.Prelude.{◌≡◌, List, ◌++◌, ℕ, ◌≤◌, length, take, drop}
use Rattle.model.specs.Convert.{kept_of}

-- what comes after the n bytes that are left is as it was
pub record Compacted (end : ℕ) (entry : List ℕ) (n : ℕ) (exit : List ℕ) : Type 0 where
  pub size : n ≡ length (kept_of (take end entry))
  pub shorter : n ≤ end
  pub bytes : exit ≡ kept_of (take end entry) ++ drop n entry
