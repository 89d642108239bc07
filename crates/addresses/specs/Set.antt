-- A set of addresses as words of 64 bits: bit k of word i is address 64 i + k. Assumes nothing: these are definitions.
use Rattle.std.specs.Prelude.{◌≡◌, Bool, ◌||◌, List, ℕ, ◌/◌, ◌%◌, ◌^◌, eqb, length, get_or}

unfoldable pub in_set : List ℕ → (address : ℕ) → Bool
in_set s a = eqb (get_or s (a / 64) 0 / 2 ^ (a % 64) % 2) 1

-- one address more, and every other as before
pub record PutIn (a : ℕ) (s s_now : List ℕ) : Type 0 where
  pub members : (b : ℕ) → in_set s_now b ≡ (eqb a b || in_set s b)
  pub size_same : length s_now ≡ length s
