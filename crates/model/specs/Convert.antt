-- 02, L1 and L4: what `convert` makes of a stored image. Assumes nothing: these are definitions.
use Rattle.std.specs.Prelude.{Bool, true, false, ◌&&◌, ◌||◌, cond, List, [], ◌∷◌, ◌++◌, map, ℕ, zero, suc, ◌+◌, ◌-◌, ltb, leb, eqb, length, take, drop, replicate}
use Rattle.std.proofs.Math.Option.{Option, none, some}
use Rattle.model.specs.Image.{Rules, stored, Mark, ME, ST, WD, RN, mark_of, record_size, number_at, Loading, nothing_loaded, Image, refused_image, loaded, image_after, stored_image}
use Rattle.model.specs.Listing.{refusal_line}
use Rattle.model.specs.Bench.{Called, call_refused, call_wrote}

-- THE RECORDS at the front of some bytes, each as its own bytes. The bytes of a whole record with a known mark; else none
unfoldable pub size_by : Rules → Option Mark → (bytes : ℕ) → ℕ
size_by v none n = 0
size_by v (some k) n = cond (leb (record_size v k) n) (record_size v k) 0

unfoldable pub front_size : Rules → List ℕ → ℕ
front_size v bs = size_by v (mark_of bs) (length bs)

unfoldable pub records_from : Rules → (most : ℕ) → List ℕ → List (List ℕ)
records_from v zero bs = []
records_from v (suc n) bs =
    let s = front_size v bs in
    cond (eqb s 0) [] (take s bs ∷ records_from v n (drop s bs))

-- each record takes a byte at least, so there are at most as many as bytes
unfoldable pub records : Rules → List ℕ → List (List ℕ)
records v bs = records_from v (length bs) bs

unfoldable pub joined : List (List ℕ) → List ℕ
joined [] = []
joined (x ∷ xs) = x ++ joined xs

-- what comes after the records
unfoldable pub left_over : Rules → List ℕ → List ℕ
left_over v bs = drop (length (joined (records v bs))) bs

-- OF THE WD RECORDS THE LAST OF EACH ADDRESS. 43 and 44 let no WD by with an address of 8,192 or above
unfoldable pub is_word : Option Mark → Bool
is_word none = false
is_word (some ME) = false
is_word (some ST) = false
is_word (some WD) = true
is_word (some RN) = false

unfoldable pub writes : (address : ℕ) → (one : List ℕ) → Bool
writes a x = is_word (mark_of x) && (eqb (number_at 2 4 x) a && ltb a 8192)

unfoldable pub some_writes : (address : ℕ) → List (List ℕ) → Bool
some_writes a [] = false
some_writes a (x ∷ xs) = writes a x || some_writes a xs

-- a later record writes the word that this one writes
unfoldable pub superseded : (one : List ℕ) → (later : List (List ℕ)) → Bool
superseded x xs = let a = number_at 2 4 x in writes a x && some_writes a xs

unfoldable pub last_of_each : List (List ℕ) → List (List ℕ)
last_of_each [] = []
last_of_each (x ∷ xs) = cond (superseded x xs) (last_of_each xs) (x ∷ last_of_each xs)

-- a stored image with those alone of its WD records: every other record stays as it is, where it stands
unfoldable pub kept_of : List ℕ → List ℕ
kept_of bs = joined (last_of_each (records stored bs)) ++ left_over stored bs

-- ST GAINS FIVE ZERO BYTES: the switch is off
unfoldable pub added : Option Mark → List ℕ
added none = []
added (some ME) = []
added (some ST) = replicate 5 0
added (some WD) = []
added (some RN) = []

unfoldable pub renewed : (one : List ℕ) → List ℕ
renewed x = x ++ added (mark_of x)

-- the image with both changes
unfoldable pub compacted : List ℕ → List ℕ
compacted bs = joined (map renewed (last_of_each (records stored bs))) ++ left_over stored bs

-- of an image with one ST they stand where it ends
unfoldable pub is_start : Option Mark → Bool
is_start none = false
is_start (some ME) = false
is_start (some ST) = true
is_start (some WD) = false
is_start (some RN) = false

unfoldable pub start_end : (records : List (List ℕ)) → ℕ
start_end [] = 0
start_end (x ∷ xs) = length x + cond (is_start (mark_of x)) 0 (start_end xs)

unfoldable pub with_zeros_at : (at : ℕ) → List ℕ → List ℕ
with_zeros_at p bs = take p bs ++ (replicate 5 0 ++ drop p bs)

-- THE PROGRAM: the stored image is judged, then written. With `kept` the bytes whose records have been loaded, and those that come after them
unfoldable pub convert_on : Image → (bytes : List ℕ) → List ℕ
convert_on (refused_image n) bs = refusal_line n
convert_on (loaded v m b) bs = compacted bs

unfoldable pub convert_after : Loading → (kept bytes : List ℕ) → List ℕ
convert_after l kept bs = convert_on (image_after l bs) (kept ++ bs)

unfoldable pub convert : List ℕ → List ℕ
convert bs = convert_after (nothing_loaded stored) [] bs

-- C'S CALL converts an image where it stands, in a buffer with five bytes more, the room that ST needs; bytes after the new one,
-- and on refusal all, keep what they held
unfoldable pub convert_call_on : Image → (bytes buffer : List ℕ) → Called
convert_call_on (refused_image n) bs buffer = call_refused n buffer
convert_call_on (loaded v m b) bs buffer = call_wrote (compacted bs) buffer

unfoldable pub convert_call : (buffer : List ℕ) → Called
convert_call buffer = let bs = take (length buffer - 5) buffer in convert_call_on (stored_image bs) bs buffer
