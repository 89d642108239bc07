-- Numbers of a line that others follow. Assumes nothing: these are definitions.
use Rattle.std.specs.Prelude.{List, [], ◌∷◌, ◌++◌, ℕ}
use Rattle.model.specs.Listing.{decimal}

-- a pointer's numbers, each with a space after it
unfoldable pub spaced_pointer : (ring segment word : ℕ) → List ℕ
spaced_pointer r s w = (decimal r ++ (32 ∷ [])) ++ ((decimal s ++ (32 ∷ [])) ++ (decimal w ++ (32 ∷ [])))
