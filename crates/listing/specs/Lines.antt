-- What a text holds of a listing, and what is still to come. Assumes nothing: these are definitions.
use Rattle.std.specs.Prelude.{◌≡◌, true, false, List, ◌++◌, ℕ, ◌+◌, ◌-◌, ◌*◌, ◌≤◌, ◌<◌, length, take, drop}
use Rattle.model.specs.Registers.{Delivery, Machine}
use Rattle.model.specs.Questions.{start_questions}
use Rattle.model.specs.Listing.{listing}
use Rattle.chunks.specs.Chunk.{text_from}
use Rattle.listing.specs.declared.Listed.{Listed}

-- lines from the text's start; bytes after them stay. It stops before the last line only where fewer than 128 bytes are left;
-- a text of 64 bytes for each line has room for all
pub record LinesWritten (v : Delivery) (m : Machine) (count total budget : ℕ) (text : List ℕ) (x : Listed) (m_now : Machine) (text_now : List ℕ) : Type 0 where
  pub goes_on : x.line.is_last ≡ false → take x.line.length text_now ++ text_from v (budget - x.count) x.count x.line.total m_now ≡ text_from v (budget - count) count total m
  pub ends : x.line.is_last ≡ true → take x.line.length text_now ≡ text_from v (budget - count) count total m
  pub rest_same : drop x.line.length text_now ≡ drop x.line.length text
  pub size_same : length text_now ≡ length text
  pub fits : x.line.length ≤ length text
  pub short : x.line.length ≤ 64 * (budget - count + 1)
  pub count_within : x.count ≤ budget
  pub total_within : x.line.is_last ≡ false → x.line.total ≤ 64 * x.count
  pub passes : start_questions v m_now ≡ 0
  pub full : x.line.is_last ≡ false → length text < x.line.length + 128
  pub has_room : 64 * (budget - count + 1) ≤ length text → x.line.is_last ≡ true

-- the definition's listing at the text's start; bytes after it stay
pub record WholeListing (v : Delivery) (budget : ℕ) (m : Machine) (text : List ℕ) (r : ℕ) (text_now : List ℕ) : Type 0 where
  pub size : r ≡ length (listing v budget m)
  pub text_same : text_now ≡ listing v budget m ++ drop (length (listing v budget m)) text
  pub short : r ≤ 64 * (budget + 1)
