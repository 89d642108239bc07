-- A step's number, kept from line to line with its digits. Assumes nothing: these are definitions.
use Rattle.std.specs.Prelude.{◌≡◌, cond, List, [], ℕ, ◌/◌, ◌%◌, ◌≤◌, ◌<◌, ltb, take}
use Rattle.model.specs.Listing.{decimal}
use Rattle.lines.specs.declared.Number.{Number}

-- a number's decimal digits without the last; none below ten
unfoldable pub tens_of : ℕ → List ℕ
tens_of v = cond (ltb v 10) [] (decimal (v / 10))

-- the last digit, and the others at the front of `tens`
pub record Kept (tens : List ℕ) (n : Number) : Type 0 where
  pub last : n.ones ≡ n.value % 10
  pub front : take n.width tens ≡ tens_of n.value
  pub narrow : n.width ≤ 9
  pub fits : n.value < 4294967296
