-- 02, L12: what an image will need, worked out from its records: no word of it is kept, and no step taken. Assumes nothing: these are definitions.
use Rattle.std.specs.Prelude.{cond, List, [], ◌∷◌, ◌++◌, ℕ, suc, ◌+◌, ◌*◌, length}
use Prim.Native.String.{String}
use Rattle.model.specs.Run.{unless_refused}
use Rattle.model.specs.Image.{sizing, mark_of, nothing_loaded, Image, refused_image, loaded, image_after}
use Rattle.model.specs.Listing.{ascii, decimal, line, refusal_line}
use Rattle.model.specs.Convert.{records, is_word}

-- the number of the question with a no, or 0 and the five figures
pub record Needs : Type 0 where
  pub number : ℕ
  pub memory : ℕ
  pub records : ℕ
  pub budget : ℕ
  pub lines : ℕ
  pub pointers : ℕ

unfoldable pub needs_refused : (number : ℕ) → Needs
needs_refused n = record { number = n; memory = 0; records = 0; budget = 0; lines = 0; pointers = 0 }

-- a line for each step and the last; 31 lets no step read more than 64 pointer words
unfoldable pub needs_of : (memory records budget : ℕ) → Needs
needs_of n w b = record { number = 0; memory = n; records = w; budget = b; lines = b + 1; pointers = 64 * b }

-- how many of some records are WD
unfoldable pub word_count : List (List ℕ) → ℕ
word_count [] = 0
word_count (x ∷ xs) = cond (is_word (mark_of x)) (suc (word_count xs)) (word_count xs)

-- AN IMAGE'S NEEDS: it is loaded by the rules that keep no word, 1 to 4 with ME's number as memory's size
unfoldable pub needs_on : Image → (records : ℕ) → Needs
needs_on (refused_image n) w = needs_refused n
needs_on (loaded v m b) w = needs_of (length m.memory) w b

unfoldable pub image_needs : List ℕ → Needs
image_needs bs = needs_on (image_after (nothing_loaded sizing) bs) (word_count (records sizing bs))

-- THE PROGRAM'S TEXT: a line each, or `refused NUMBER`
unfoldable pub need_line : String → ℕ → List ℕ
need_line s n = line (ascii s ∷ decimal n ∷ [])

unfoldable pub needs_lines : Needs → List ℕ
needs_lines x =
    unless_refused x.number refusal_line
    (need_line "memory" x.memory ++ need_line "records" x.records ++ need_line "budget" x.budget ++ need_line "lines" x.lines
    ++ need_line "pointers" x.pointers)

unfoldable pub needs_text : (bytes : List ℕ) → List ℕ
needs_text bs = needs_lines (image_needs bs)
