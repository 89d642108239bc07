-- 01, 'Images and the listing', with 02's L1, L4 and L12: an image's records, questions 41 to 44 and 51 of each in order, then 1 to 4.
-- Assumes nothing: these are definitions.
use Rattle.std.specs.Prelude.{Bool, true, false, ◌&&◌, ◌||◌, not, cond, List, [], ◌∷◌, ℕ, zero, suc, ◌+◌, ◌*◌, ltb, leb, eqb, length, get_or, set, take, drop, replicate}
use Rattle.std.proofs.Math.Option.{Option, none, some}
use Prim.Native.Char.{Char, code}
use Rattle.model.specs.Words.{Pointer}
use Rattle.model.specs.Registers.{Registers, Delivery, no_delivery, Machine, machine, zero_pointer}
use Rattle.model.specs.Questions.{ask, yes_to_all, start_questions}
use Rattle.model.specs.Run.{unless_refused}

-- THE RULES by which records are read: 01's, for which stored images were written (of two WD for one address the later wins, and ST has 59 bytes);
-- today's; and today's for an image's needs (02, L12), by which no word is kept: memory is as ME made it, and stands for its size alone
pub data Rules : Type 0 where
  stored : Rules
  today : Rules
  sizing : Rules

-- MARKS, two bytes of ASCII, and the bytes of a record with its mark
pub data Mark : Type 0 where
  ME : Mark
  ST : Mark
  WD : Mark
  RN : Mark

unfoldable pub marked : (first second : Char) → List ℕ → Bool
marked x y bs = eqb (get_or bs 0 0) (code x) && eqb (get_or bs 1 0) (code y)

unfoldable pub mark_of : List ℕ → Option Mark
mark_of bs =
    cond (marked "M" "E" bs) (some ME) (cond (marked "S" "T" bs) (some ST) (cond (marked "W" "D" bs) (some WD) (cond (marked "R" "N" bs) (some RN) none)))

unfoldable pub start_size : Rules → ℕ
start_size stored = 61
start_size today = 66
start_size sizing = 66

unfoldable pub record_size : Rules → Mark → ℕ
record_size v ME = 6
record_size v ST = start_size v
record_size v WD = 14
record_size v RN = 6

-- NUMBERS, high byte first: n bytes from byte `at` of a record
unfoldable pub big_endian : (value : ℕ) → List ℕ → ℕ
big_endian v [] = v
big_endian v (b ∷ bs) = big_endian (256 * v + b) bs

unfoldable pub number_at : (at n : ℕ) → List ℕ → ℕ
number_at a n bs = big_endian 0 (take n (drop a bs))

-- ST: A 8, DBR ADDRESS 4, LENGTH 2, then IPR and PR0 to PR7 as RING 1, SEGNO 2, WORDNO 2
unfoldable pub pointer_at : (at : ℕ) → List ℕ → Pointer
pointer_at a bs = record { ring = number_at a 1 bs; segment = number_at (a + 1) 2 bs; word = number_at (a + 3) 2 bs }

unfoldable pub pointers_at : (count at : ℕ) → List ℕ → List Pointer
pointers_at zero a bs = []
pointers_at (suc n) a bs = pointer_at a bs ∷ pointers_at n (a + 5) bs

unfoldable pub registers_at : List ℕ → Registers
registers_at bs =
    record {
      a = number_at 2 8 bs;
      dbr = record { address = number_at 10 4 bs; length = number_at 14 2 bs };
      ipr = pointer_at 16 bs;
      prs = pointers_at 8 21 bs;
    }

-- and today the switch 1, save segment 2, handler segment 2 (02, L4)
unfoldable pub delivery_at : Rules → List ℕ → Delivery
delivery_at stored bs = no_delivery
delivery_at today bs = record { switch = number_at 61 1 bs; save = number_at 62 2 bs; handler = number_at 64 2 bs }
delivery_at sizing bs = record { switch = number_at 61 1 bs; save = number_at 62 2 bs; handler = number_at 64 2 bs }

-- WHAT THE RECORDS SO FAR GAVE: memory once ME has come, registers once ST has; today also which words a WD has written
pub record Loading : Type 0 where
  pub rules : Rules
  pub memory : Option (List ℕ)
  pub written : (address : ℕ) → Bool
  pub registers : Option Registers
  pub delivery : Delivery

abbrev pub nothing_loaded : Rules → Loading
nothing_loaded v = record { rules = v; memory = none; written = λ _. false; registers = none; delivery = no_delivery }

unfoldable pub has : {A : Type 0} → Option A → Bool
has none = false
has (some x) = true

unfoldable pub or_else : {A : Type 0} → A → Option A → A
or_else x none = x
or_else x (some y) = y

unfoldable pub memory_of : Loading → List ℕ
memory_of l = or_else [] l.memory

abbrev pub zero_registers : Registers
zero_registers = record { a = 0; dbr = record { address = 0; length = 0 }; ipr = zero_pointer; prs = [] }

unfoldable pub machine_of : Loading → Machine
machine_of l = machine (or_else zero_registers l.registers) (memory_of l)

-- 42: ME first and single, ST single and before RN, RN last?
unfoldable pub in_order : Mark → Loading → (bytes_after : ℕ) → Bool
in_order ME l n = not (has l.memory)
in_order ST l n = has l.memory && not (has l.registers)
in_order WD l n = has l.memory
in_order RN l n = has l.memory && (has l.registers && eqb n 0)

-- 43: ME ≤ 8,192?
unfoldable pub memory_allowed : Mark → List ℕ → Bool
memory_allowed ME bs = leb (number_at 2 4 bs) 8192
memory_allowed ST bs = true
memory_allowed WD bs = true
memory_allowed RN bs = true

-- 44: WD address below ME's number?
unfoldable pub address_allowed : Mark → Loading → List ℕ → Bool
address_allowed ME l bs = true
address_allowed ST l bs = true
address_allowed WD l bs = ltb (number_at 2 4 bs) (length (memory_of l))
address_allowed RN l bs = true

-- 51: has no earlier WD the address? Asked today, and not of stored images
unfoldable pub unless_written : Rules → (is_written : Bool) → Bool
unless_written stored w = true
unless_written today w = not w
unless_written sizing w = not w

unfoldable pub address_new : Mark → Loading → List ℕ → Bool
address_new ME l bs = true
address_new ST l bs = true
address_new WD l bs = unless_written l.rules (l.written (number_at 2 4 bs))
address_new RN l bs = true

-- ONE RECORD, at the front of the bytes. 42 to 44 and 51 of a whole one, with so many bytes after it
unfoldable pub record_questions : Mark → Loading → (bytes_after : ℕ) → List ℕ → ℕ
record_questions k l n bs =
    ask (in_order k l n) 42 (ask (memory_allowed k bs) 43 (ask (address_allowed k l bs) 44 (ask (address_new k l bs) 51 yes_to_all)))

unfoldable pub with_written : Rules → (address : ℕ) → (ℕ → Bool) → ℕ → Bool
with_written stored a w = w
with_written today a w = λ b. eqb a b || w b
with_written sizing a w = λ b. eqb a b || w b

-- a WD's word in its place, where words are kept
unfoldable pub words_with : Rules → (address word : ℕ) → List ℕ → List ℕ
words_with stored a v m = set m a v
words_with today a v m = set m a v
words_with sizing a v m = m

unfoldable pub with_word : (address word : ℕ) → Loading → Loading
with_word a v l =
    record {
      rules = l.rules;
      memory = some (words_with l.rules a v (memory_of l));
      written = with_written l.rules a l.written;
      registers = l.registers;
      delivery = l.delivery;
    }

unfoldable pub with_record : Mark → Loading → List ℕ → Loading
with_record ME l bs =
    record {
      rules = l.rules;
      memory = some (replicate (number_at 2 4 bs) 0);
      written = l.written;
      registers = l.registers;
      delivery = l.delivery;
    }
with_record ST l bs =
    record {
      rules = l.rules;
      memory = l.memory;
      written = l.written;
      registers = some (registers_at bs);
      delivery = delivery_at l.rules bs;
    }
with_record WD l bs = with_word (number_at 2 4 bs) (number_at 6 8 bs) l
with_record RN l bs = l

pub data Image : Type 0 where
  refused_image : (number : ℕ) → Image
  loaded : Delivery → Machine → (budget : ℕ) → Image

-- 1 to 4, once RN has come
unfoldable pub checked : Delivery → Machine → (budget : ℕ) → Image
checked v m b = unless_refused (start_questions v m) refused_image (loaded v m b)

-- RN ends the image; after another record it goes on
unfoldable pub record_on : Mark → Loading → List ℕ → (Loading → Image) → Image
record_on ME l bs f = f (with_record ME l bs)
record_on ST l bs f = f (with_record ST l bs)
record_on WD l bs f = f (with_record WD l bs)
record_on RN l bs f = checked l.delivery (machine_of l) (number_at 2 4 bs)

unfoldable pub whole_record_on : Mark → Loading → (bytes_after : ℕ) → List ℕ → (Loading → Image) → Image
whole_record_on k l n bs f = unless_refused (record_questions k l n bs) refused_image (record_on k l bs f)

-- 41: known mark and whole record?
unfoldable pub marked_on : Option Mark → Loading → List ℕ → (Loading → List ℕ → Image) → Image
marked_on none l bs f = refused_image 41
marked_on (some k) l bs f =
    let size = record_size l.rules k in
    let rest = drop size bs in
    cond (leb size (length bs)) (whole_record_on k l (length rest) bs (λ j. f j rest)) (refused_image 41)

-- no bytes: a file without RN, or an empty one, is 42
unfoldable pub bytes_on : Loading → List ℕ → (Loading → List ℕ → Image) → Image
bytes_on l [] f = refused_image 42
bytes_on l (b ∷ bs) f = marked_on (mark_of (b ∷ bs)) l (b ∷ bs) f

-- THE IMAGE: each record takes a byte at least, so there are at most as many as bytes
unfoldable pub image_from : (records : ℕ) → Loading → List ℕ → Image
image_from zero l bs = refused_image 42
image_from (suc n) l bs = bytes_on l bs (λ k rest. image_from n k rest)

-- the bytes that come after the records so far
unfoldable pub image_after : Loading → List ℕ → Image
image_after l bs = image_from (suc (length bs)) l bs

unfoldable pub image : List ℕ → Image
image bs = image_after (nothing_loaded today) bs

-- what a stored image means
unfoldable pub stored_image : List ℕ → Image
stored_image bs = image_after (nothing_loaded stored) bs
