-- Where the last record of each word stands. Assumes nothing: these are definitions.
use Rattle.std.specs.Prelude.{Bool, true, List, [], ◌∷◌, ℕ, ◌+◌, eqb, length, get_or, set, Option, Some, None}
use Rattle.compaction.specs.Front.{written_word}

-- the places once a record that stands at `at` is noted
abbrev pub noted : (word : Option ℕ) → (at : ℕ) → (places : List ℕ) → List ℕ
noted None at t = t
noted (Some a) at t = set t a at

-- the places after some records that stand one after another, the first of them at `at`
unfoldable pub last_places : (at : ℕ) → (records : List (List ℕ)) → (places : List ℕ) → List ℕ
last_places at [] t = t
last_places at (x ∷ xs) t = last_places (at + length x) xs (noted (written_word x) at t)

-- does no later record write the word of the one at `at`?
abbrev pub last_here : (word : Option ℕ) → (places : List ℕ) → (at : ℕ) → Bool
last_here None t at = true
last_here (Some a) t at = eqb (get_or t a 0) at
