-- 02, L9: descriptors of the old benches, which have no rings, made into today's and back. Assumes nothing: these are definitions.
use Rattle.std.specs.Prelude.{Bool, ◌&&◌, ◌||◌, cond, List, [], ◌∷◌, ◌++◌, map, ℕ, zero, suc, ◌+◌, ◌*◌, ◌/◌, ◌%◌, ◌^◌, eqb, length}
use Rattle.model.specs.Words.{field, on, Descriptor, descriptor_in}
use Rattle.model.specs.Questions.{yes_to_all, ask}
use Rattle.model.specs.Image.{number_at}
use Rattle.model.specs.Listing.{ascii, decimal, line}
use Rattle.model.specs.Write.{bytes}

-- AN OLD DESCRIPTOR: ADDRESS and LENGTH as now, R, W, E and user; the rest is zero
pub record OldDescriptor : Type 0 where
  pub address : ℕ
  pub length : ℕ
  pub read : Bool
  pub write : Bool
  pub execute : Bool
  pub user : Bool

unfoldable pub old_descriptor_in : (word : ℕ) → OldDescriptor
old_descriptor_in w =
    record { address = field 0 24 w; length = field 24 16 w; read = on 40 w; write = on 41 w; execute = on 42 w; user = on 43 w }

-- THE QUESTION of a word, by the way that it is to go
pub data Way : Type 0 where
  from_old : Way
  to_old : Way

-- 56, of an old word: are bits 44 to 63 off?
unfoldable pub rest_is_zero : (word : ℕ) → Bool
rest_is_zero w = eqb (field 44 20 w) 0

-- 57, of one of today's: V on, GATE 0, and rings 4 4 4 or 0 0 0?
unfoldable pub rings_are : (ring : ℕ) → Descriptor → Bool
rings_are n d = eqb d.r1 n && (eqb d.r2 n && eqb d.r3 n)

unfoldable pub has_old_form : Descriptor → Bool
has_old_form d = d.valid && (eqb d.gate 0 && (rings_are 4 d || rings_are 0 d))

unfoldable pub form_questions : Way → (word : ℕ) → ℕ
form_questions from_old w = ask (rest_is_zero w) 56 yes_to_all
form_questions to_old w = ask (has_old_form (descriptor_in w)) 57 yes_to_all

-- THE WORD that it becomes. User on is rings 4 4 4, off is 0 0 0; V on, GATE 0
unfoldable pub renewed_word : (word : ℕ) → ℕ
renewed_word w =
    let ring = 4 * field 43 1 w in w % 2 ^ 40 + 2 ^ 40 * ring + 2 ^ 43 * ring + 2 ^ 46 * ring + 2 ^ 49 * field 40 3 w + 2 ^ 52

unfoldable pub old_word : (word : ℕ) → ℕ
old_word w = w % 2 ^ 40 + 2 ^ 40 * field 49 3 w + 2 ^ 43 * (field 40 3 w / 4)

unfoldable pub converted_word : Way → (word : ℕ) → ℕ
converted_word from_old w = renewed_word w
converted_word to_old w = old_word w

-- A SEGMENT, all or nothing: the first word that fails decides, by its number and its index; both are 0 where none does
pub record Answer : Type 0 where
  pub number : ℕ
  pub index : ℕ

unfoldable pub or_fails : (answer index : ℕ) → Answer → Answer
or_fails zero k x = x
or_fails (suc n) k x = record { number = suc n; index = k }

unfoldable pub words_answer : Way → (index : ℕ) → (words : List ℕ) → Answer
words_answer y k [] = record { number = yes_to_all; index = 0 }
words_answer y k (w ∷ ws) = or_fails (form_questions y w) k (words_answer y (suc k) ws)

pub record Converted : Type 0 where
  pub answer : Answer
  pub words : List ℕ

unfoldable pub convert_words : Way → List ℕ → Converted
convert_words y ws =
    let x = words_answer y 0 ws in record { answer = x; words = cond (eqb x.number 0) (map (converted_word y) ws) ws }

-- THE PROGRAM'S TEXT for a file of words, 8 bytes each, high byte first: the words that they become, or the refusal
unfoldable pub words_at : (count at : ℕ) → List ℕ → List ℕ
words_at zero a bs = []
words_at (suc n) a bs = number_at a 8 bs ∷ words_at n (a + 8) bs

unfoldable pub words_bytes : List ℕ → List ℕ
words_bytes [] = []
words_bytes (w ∷ ws) = bytes 8 w ++ words_bytes ws

unfoldable pub converted_text : Converted → List ℕ
converted_text x =
    cond (eqb x.answer.number 0) (words_bytes x.words) (line (ascii "refused" ∷ decimal x.answer.number ∷ decimal x.answer.index ∷ []))

unfoldable pub words_text : Way → (bytes : List ℕ) → List ℕ
words_text y bs = converted_text (convert_words y (words_at (length bs / 8) 0 bs))
