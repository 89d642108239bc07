-- Statements on an image's needs (02, L12): they are refused just as loading is, are the image's, and bound every run of it. Assumes nothing: these are
-- definitions.
use Rattle.std.specs.Prelude.{◌≡◌, cond, List, [], ◌∷◌, ℕ, suc, ◌-◌, ◌/◌, ◌≤◌, eqb, length}
use Rattle.model.specs.Registers.{Delivery, Machine}
use Rattle.model.specs.Run.{run, total}
use Rattle.model.specs.Answers.{reply_numbers}
use Rattle.model.specs.Image.{today, sizing, nothing_loaded, refused_image, loaded, image_after, image}
use Rattle.model.specs.Listing.{listing, image_text}
use Rattle.model.specs.Convert.{records}
use Rattle.model.specs.Needs.{needs_refused, needs_of, word_count, needs_on, image_needs}

-- REFUSED JUST AS LOADING IS, with the same number, which is never 0
abbrev pub NeedsRefused : Type 0
NeedsRefused = (bs : List ℕ) (n : ℕ) → image bs ≡ refused_image n → (image_needs bs ≡ needs_refused n) × (1 ≤ n)

-- else memory's size, the number of WD records and the budget are the image's
abbrev pub NeedsAccepted : Type 0
NeedsAccepted =
    (bs : List ℕ) (v : Delivery) (m : Machine) (b : ℕ) → image bs ≡ loaded v m b →
    image_needs bs ≡ needs_of (length m.memory) (word_count (records today bs)) b

-- an accepted image has 78 bytes for ME, ST and RN, and 14 for each WD: its length says how many there are
abbrev pub NeedsByLength : Type 0
NeedsByLength = (bs : List ℕ) → image_needs bs ≡ needs_on (image_after (nothing_loaded sizing) bs) ((length bs - 78) / 14)

-- how many lines a text has: each ends with a newline
unfoldable pub lines_in : (text : List ℕ) → ℕ
lines_in [] = 0
lines_in (c ∷ cs) = cond (eqb c 10) (suc (lines_in cs)) (lines_in cs)

-- NO RUN OF THE IMAGE EXCEEDS THEM, under its budget or a smaller one
pub record RunWithin (bs : List ℕ) (v : Delivery) (k : ℕ) (m : Machine) : Type 0 where
  pub lines_within : lines_in (listing v k m) ≤ (image_needs bs).lines
  pub pointers_within : total v k m ≤ (image_needs bs).pointers
  pub steps_within : (reply_numbers (run v k m).reply).count ≤ (image_needs bs).budget
  pub memory_same : length (run v k m).machine.memory ≡ (image_needs bs).memory

abbrev pub NeedsEnough : Type 0
NeedsEnough = (bs : List ℕ) (v : Delivery) (m : Machine) (b : ℕ) → image bs ≡ loaded v m b → (k : ℕ) → k ≤ b → RunWithin bs v k m

-- nor does the text that it prints
abbrev pub TextWithin : Type 0
TextWithin = (bs : List ℕ) (v : Delivery) (m : Machine) (b : ℕ) → image bs ≡ loaded v m b → lines_in (image_text bs) ≤ (image_needs bs).lines
