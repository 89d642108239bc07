-- The record at the front of some bytes, and the word that it writes. Assumes nothing: these are definitions.
use Rattle.std.specs.Prelude.{◌≡◌, cond, List, ℕ, ◌<◌, take, Option, Some, None, IfSome, MatchOption}
use lib.Dec.{ltb}
use Rattle.model.specs.Image.{stored, number_at}
use Rattle.model.specs.Convert.{front_size, writes}
use Rattle.compaction.specs.declared.front.FrontRecord.{FrontRecord}

-- the address that a record writes
unfoldable pub written_word : (one : List ℕ) → Option ℕ
written_word x = let a = number_at 2 4 x in cond (writes a x) (Some a) None

-- an address, where it is below 8,192
abbrev pub small_address : ℕ → Option ℕ
small_address a = cond (ltb a 8192) (Some a) None

pub record AtFront (bytes : List ℕ) (r : FrontRecord) : Type 0 where
  pub size_is : r.size ≡ front_size stored bytes
  pub has_bytes : 0 < r.size
  pub word_is : r.word ≡ written_word (take r.size bytes)
  pub word_within : IfSome r.word (λ a. a < 8192)

abbrev pub FrontOf : (bytes : List ℕ) → Option FrontRecord → Type 0
FrontOf bytes r = MatchOption r (front_size stored bytes ≡ 0) (λ x. AtFront bytes x)
