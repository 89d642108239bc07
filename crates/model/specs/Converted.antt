-- Statements on `convert`, and on today's rules beside those of stored images. Assumes nothing: these are definitions.
use Rattle.std.specs.Prelude.{◌≡◌, false, List, [], ◌∷◌, ◌++◌, map, ℕ}
use Rattle.model.specs.Registers.{Delivery, Machine}
use Rattle.model.specs.Image.{stored, today, refused_image, loaded, image, stored_image}
use Rattle.model.specs.Listing.{refusal_line}
use Rattle.model.specs.Convert.{records, joined, left_over, superseded, some_writes, renewed, convert}

-- some of the elements, in their order
pub data Sublist {A : Type 0} : (xs ys : List A) → Type 0 where
  none_left : Sublist [] []
  kept : {xs ys : List A} (x : A) → Sublist xs ys → Sublist (x ∷ xs) (x ∷ ys)
  dropped : {xs ys : List A} (x : A) → Sublist xs ys → Sublist xs (x ∷ ys)

-- no record writes a word that a later one writes
unfoldable pub OneAnAddress : List (List ℕ) → Type 0
OneAnAddress [] = Unit {0}
OneAnAddress (x ∷ xs) = (superseded x xs ≡ false) × OneAnAddress xs

-- a stored image with today's ST, and else as it was
unfoldable pub with_todays_start : (bytes : List ℕ) → List ℕ
with_todays_start bs = joined (map renewed (records stored bs)) ++ left_over stored bs

-- TODAY'S RULES read it as the stored ones read the image, where no word is written twice
abbrev pub RulesAgree : Type 0
RulesAgree = (bs : List ℕ) → OneAnAddress (records stored bs) → image (with_todays_start bs) ≡ stored_image bs

-- what today's accept, the stored ones gave
abbrev pub TodayAsStored : Type 0
TodayAsStored =
    (bs : List ℕ) (v : Delivery) (m : Machine) (b : ℕ) → image (with_todays_start bs) ≡ loaded v m b → stored_image bs ≡ loaded v m b

-- THE CONVERTED IMAGE of one that the stored rules accept is accepted, and gives the same memory, registers and budget
abbrev pub ConvertedLoads : Type 0
ConvertedLoads =
    (bs : List ℕ) (v : Delivery) (m : Machine) (b : ℕ) → stored_image bs ≡ loaded v m b → image (convert bs) ≡ loaded v m b

-- one that they refuse gives only its number
abbrev pub RefusedConverts : Type 0
RefusedConverts = (bs : List ℕ) (n : ℕ) → stored_image bs ≡ refused_image n → convert bs ≡ refusal_line n

-- its records are some of the old one's, in their order, ST with its five bytes: no word is written twice, and none is lost; no byte is left over
pub record ConvertedRecords (bs : List ℕ) : Type 0 where
  pub in_order : Sublist (records today (convert bs)) (map renewed (records stored bs))
  pub one_an_address : OneAnAddress (records today (convert bs))
  pub none_lost : (a : ℕ) → some_writes a (records today (convert bs)) ≡ some_writes a (records stored bs)
  pub whole : left_over today (convert bs) ≡ []

abbrev pub ConvertedIsSublist : Type 0
ConvertedIsSublist = (bs : List ℕ) (v : Delivery) (m : Machine) (b : ℕ) → stored_image bs ≡ loaded v m b → ConvertedRecords bs
