-- 01, 'Images and the listing': what a call on bytes answers and leaves, and what the bench's call does. Assumes nothing: these are definitions.
use Rattle.std.specs.Prelude.{cond, List, ◌++◌, ℕ, zero, suc, ◌+◌, ◌*◌, leb, ℤ, pos, negsuc, length, drop}
use Rattle.model.specs.Image.{Image, refused_image, loaded, image}
use Rattle.model.specs.Listing.{listing}

-- A CALL ON BYTES answers one signed number, and may write into a buffer
pub record Called : Type 0 where
  pub answer : ℤ
  pub buffer : List ℕ

unfoldable pub negated : ℕ → ℤ
negated zero = pos 0
negated (suc n) = negsuc n

-- refused: the question's number negated, and every byte as it was
unfoldable pub call_refused : (number : ℕ) → (buffer : List ℕ) → Called
call_refused n buffer = record { answer = negated n; buffer = buffer }

-- the text's length; bytes after the text keep what they held
unfoldable pub call_wrote : (text buffer : List ℕ) → Called
call_wrote text buffer = record { answer = pos (length text); buffer = text ++ drop (length text) buffer }

-- THE BENCH'S CALL. 45, last: has the buffer 64 × (budget + 1) bytes?
unfoldable pub bench_on : Image → (buffer : List ℕ) → Called
bench_on (refused_image n) buffer = call_refused n buffer
bench_on (loaded v m b) buffer = cond (leb (64 * (b + 1)) (length buffer)) (call_wrote (listing v b m) buffer) (call_refused 45 buffer)

unfoldable pub bench : (bytes buffer : List ℕ) → Called
bench bs buffer = bench_on (image bs) buffer
