-- 02, L8: a table for who may do what. Its rows set brackets and flags of every descriptor. Assumes nothing: these are definitions.
use Rattle.std.specs.Prelude.{Bool, ◌&&◌, cond, List, [], ◌∷◌, ℕ, zero, suc, ◌+◌, ◌*◌, ◌/◌, ◌%◌, ◌^◌, eqb, leb, ltb, length, get_or, set, drop}
use Rattle.model.specs.Registers.{Registers, Dbr, Delivery, machine}
use Rattle.model.specs.Questions.{yes_to_all, ask, then_ask, all, memory_fits, dbr_fits}
use Rattle.model.specs.Image.{number_at, Image, refused_image, loaded, image}
use Rattle.model.specs.Listing.{refusal_line}
use Rattle.model.specs.Write.{written_image}

-- THE TABLE. A flag is off at 0, and on at any other number
pub record Row : Type 0 where
  pub first : ℕ
  pub last : ℕ
  pub r1 : ℕ
  pub r2 : ℕ
  pub r3 : ℕ
  pub read : ℕ
  pub write : ℕ
  pub execute : ℕ

unfoldable pub in_row : (segment : ℕ) → Row → Bool
in_row s r = leb r.first s && leb s r.last

-- the rows that a segment is in
unfoldable pub rows_of : (segment : ℕ) → List Row → List Row
rows_of s [] = []
rows_of s (r ∷ rs) = cond (in_row s r) (r ∷ rows_of s rs) (rows_of s rs)

-- THE QUESTIONS

-- 53: at most 32 rows, and in each FIRST ≤ LAST < LENGTH and R1 ≤ R2 ≤ R3 ≤ 7?
unfoldable pub row_fits : (segments : ℕ) → Row → Bool
row_fits l r = leb r.first r.last && (ltb r.last l && (leb r.r1 r.r2 && (leb r.r2 r.r3 && leb r.r3 7)))

unfoldable pub table_fits : (segments : ℕ) → List Row → Bool
table_fits l rows = leb (length rows) 32 && all (row_fits l) rows

-- 54: is a segment in a row? 55: in no other?
unfoldable pub one_row : (its_rows : List Row) → ℕ
one_row [] = 54
one_row (r ∷ []) = yes_to_all
one_row (r ∷ q ∷ rs) = 55

-- of so many segments from one on; the lowest at fault decides
unfoldable pub segments_questions : (count segment : ℕ) → List Row → ℕ
segments_questions zero s rows = yes_to_all
segments_questions (suc n) s rows = then_ask (one_row (rows_of s rows)) (segments_questions n (suc s) rows)

-- 1 and 4 come first
unfoldable pub table_questions : (size : ℕ) → Dbr → List Row → ℕ
table_questions n b rows =
    ask (memory_fits n) 1 (ask (dbr_fits n b) 4 (ask (table_fits b.length rows) 53 (segments_questions b.length 0 rows)))

-- WHAT IS WRITTEN: bits 40 to 51 of a descriptor, R1, R2, R3, R, W and E; its other bits stay
unfoldable pub flag_bit : ℕ → ℕ
flag_bit n = cond (eqb n 0) 0 1

unfoldable pub bracket_bits : Row → ℕ
bracket_bits r = r.r1 + 8 * r.r2 + 64 * r.r3 + 512 * flag_bit r.read + 1024 * flag_bit r.write + 2048 * flag_bit r.execute

unfoldable pub with_brackets : Row → (word : ℕ) → ℕ
with_brackets r w = w % 2 ^ 40 + 2 ^ 40 * bracket_bits r + 2 ^ 52 * (w / 2 ^ 52)

unfoldable pub by_row : (its_rows : List Row) → (word : ℕ) → ℕ
by_row [] w = w
by_row (r ∷ rs) w = with_brackets r w

-- the descriptors of so many segments from one on
unfoldable pub with_rows : (count segment : ℕ) → List Row → (address : ℕ) → (memory : List ℕ) → List ℕ
with_rows zero s rows a m = m
with_rows (suc n) s rows a m = with_rows n (suc s) rows a (set m (a + s) (by_row (rows_of s rows) (get_or m (a + s) 0)))

-- THE CALL: refused, it writes nothing
pub record Bracketed : Type 0 where
  pub answer : ℕ
  pub memory : List ℕ

unfoldable pub set_brackets : (memory : List ℕ) → Dbr → List Row → Bracketed
set_brackets m b rows =
    let n = table_questions (length m) b rows in
    record { answer = n; memory = cond (eqb n 0) (with_rows b.length 0 rows b.address m) m }

-- THE PROGRAM'S TEXT for an image: the image with its descriptors so set, or a refusal
unfoldable pub bracketed_text : Delivery → Registers → (budget : ℕ) → Bracketed → List ℕ
bracketed_text v r b x = cond (eqb x.answer 0) (written_image v (machine r x.memory) b) (refusal_line x.answer)

unfoldable pub image_bracketed : List Row → Image → List ℕ
image_bracketed rows (refused_image n) = refusal_line n
image_bracketed rows (loaded v m b) = bracketed_text v m.registers b (set_brackets m.memory m.registers.dbr rows)

-- its input: how many rows in 2 bytes, each row in 10, high byte first, then the image. 41: are the rows whole?
unfoldable pub row_at : (at : ℕ) → List ℕ → Row
row_at a bs =
    record {
      first = number_at a 2 bs;
      last = number_at (a + 2) 2 bs;
      r1 = number_at (a + 4) 1 bs;
      r2 = number_at (a + 5) 1 bs;
      r3 = number_at (a + 6) 1 bs;
      read = number_at (a + 7) 1 bs;
      write = number_at (a + 8) 1 bs;
      execute = number_at (a + 9) 1 bs;
    }

unfoldable pub rows_at : (count at : ℕ) → List ℕ → List Row
rows_at zero a bs = []
rows_at (suc n) a bs = row_at a bs ∷ rows_at n (a + 10) bs

unfoldable pub brackets_text : List ℕ → List ℕ
brackets_text bs =
    let count = number_at 0 2 bs in
    let size = 2 + 10 * count in
    cond (leb 2 (length bs) && leb size (length bs)) (image_bracketed (rows_at count 2 bs) (image (drop size bs))) (refusal_line 41)
