-- Bytes put into a text. Assumes nothing: these are definitions.
use Rattle.std.specs.Prelude.{◌≡◌, List, ◌++◌, ℕ, ◌+◌, ◌≤◌, length, take, drop}

-- text with some bytes put at a place; the others stay
unfoldable pub placed : (at : ℕ) → (bytes text : List ℕ) → List ℕ
placed a bs t = take a t ++ bs ++ drop (a + length bs) t

-- what a function that puts bytes leaves and answers: the text with them, and the place after them, at most `most` on
abbrev pub Put : (most at : ℕ) → (bytes before after : List ℕ) → (next : ℕ) → Type 0
Put most a bs t u r = (u ≡ placed a bs t) × (r ≡ a + length bs) × (r ≤ a + most)
