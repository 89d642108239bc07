-- A text from the front of a buffer. Assumes nothing: these are definitions.
use Rattle.std.specs.Prelude.{◌≡◌, List, ℕ, ◌≤◌, length}
use Rattle.text.specs.Text.{placed}

abbrev pub Printed : (text before after : List ℕ) → (size : ℕ) → Type 0
Printed s t u n = (u ≡ placed 0 s t) × (n ≡ length s) × (n ≤ length u)
