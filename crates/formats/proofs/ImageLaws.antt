-- An image is its records one after another, and then 1 to 4. Assumes nothing.
use mathlib.Core.Path.{◌≡◌, refl, sym, ◌∙◌, ap, ap₂}
use mathlib.Core.Bool.{true}
use mathlib.Core.List.{List, [], ◌∷◌, ◌++◌}
use mathlib.Core.Option.{Option, none, some}
use Prim.Native.Nat.{ℕ, zero, suc, ◌+◌, ◌*◌, ◌≤◌, ◌<◌}
use native.Mathlib.Omega.{arith}
use lib.Dec.{leb}
use lib.ListN.{length, take, drop, length-append, length-drop, get_or-append}
use lib.Seq.{take-append-le, drop-append-le, drop_at}
use borrow.Author.Tests.{leb-true, le-leb}
use Rattle.model.specs.Registers.{Delivery, Machine}
use Rattle.model.specs.Questions.{start_questions}
use Rattle.model.specs.Run.{unless_refused}
use Rattle.model.specs.Image.{Rules, stored, today, sizing, Mark, ME, ST, WD, RN, marked, mark_of, start_size, record_size, big_endian, number_at, pointer_at, pointers_at, registers_at, delivery_at, Loading, memory_allowed, address_allowed, address_new, record_questions, with_record, Image, refused_image, loaded, checked, record_on, whole_record_on, marked_on, bytes_on, image_from, image_after}
use Rattle.model.specs.Records.{ImageIsRecords, ImageNeedsRn}
use Rattle.model.proofs.BranchLaws.{cond_rel}

-- A RECORD'S SIZE by any rules: a mark and a number at least, and an ST's registers
start_has_registers : (v : Rules) → 61 ≤ start_size v
unfolding start_size
start_has_registers stored = omega arith
start_has_registers today = omega arith
start_has_registers sizing = omega arith

pub record_has_a_number : (v : Rules) (k : Mark) → 6 ≤ record_size v k
unfolding record_size
record_has_a_number v ME = omega arith
record_has_a_number v ST = let h = start_has_registers v in omega arith
record_has_a_number v WD = omega arith
record_has_a_number v RN = omega arith

pub record_has_a_mark : (v : Rules) (k : Mark) → 2 ≤ record_size v k
record_has_a_mark v k = let h = record_has_a_number v k in omega arith

-- THE RECORDS LEFT suffice: what follows a record is shorter
record_on_same : (k : Mark) (l : Loading) (bs : List ℕ) (f g : Loading → Image) → ((j : Loading) → f j ≡ g j) → record_on k l bs f ≡ record_on k l bs g
unfolding record_on
record_on_same ME l bs f g h = h _
record_on_same ST l bs f g h = h _
record_on_same WD l bs f g h = h _
record_on_same RN l bs f g h = refl

whole_record_same : (k : Mark) (l : Loading) (n : ℕ) (bs : List ℕ) (f g : Loading → Image) → ((j : Loading) → f j ≡ g j) →
    whole_record_on k l n bs f ≡ whole_record_on k l n bs g
unfolding whole_record_on
whole_record_same k l n bs f g h = ap (unless_refused (record_questions k l n bs) refused_image) (record_on_same k l bs f g h)

rest_is_shorter : (v : Rules) (k : Mark) (bs : List ℕ) → leb (record_size v k) (length bs) ≡ true → length (drop (record_size v k) bs) < length bs
rest_is_shorter v k bs e =
    let x = record_has_a_mark v k in let y = leb-true (record_size v k) (length bs) e in let z = length-drop (record_size v k) bs in omega arith

marked_on_same : (k : Option Mark) (l : Loading) (bs : List ℕ) (f g : Loading → List ℕ → Image) →
    ((j : Loading) (rest : List ℕ) → length rest < length bs → f j rest ≡ g j rest) → marked_on k l bs f ≡ marked_on k l bs g
unfolding marked_on
marked_on_same none l bs f g h = refl
marked_on_same (some k) l bs f g h =
    let size = record_size l.rules k in
    cond_rel ◌≡◌ {b = leb size (length bs)} refl
    (λ e. whole_record_same k l (length (drop size bs)) bs _ _ (λ j. h j _ (rest_is_shorter l.rules k bs e))) (λ _. refl)

bytes_on_same : (l : Loading) (bs : List ℕ) (f g : Loading → List ℕ → Image) →
    ((j : Loading) (rest : List ℕ) → length rest < length bs → f j rest ≡ g j rest) → bytes_on l bs f ≡ bytes_on l bs g
unfolding bytes_on
bytes_on_same l [] f g h = refl
bytes_on_same l (b ∷ bs) f g h = marked_on_same (mark_of (b ∷ bs)) l (b ∷ bs) f g h

image_from_enough : (n p : ℕ) (l : Loading) (bs : List ℕ) → length bs < n → length bs < p → image_from n l bs ≡ image_from p l bs
unfolding image_from
image_from_enough zero p l bs h g = absurd (omega arith)
image_from_enough (suc n) zero l bs h g = absurd (omega arith)
image_from_enough (suc n) (suc p) l bs h g =
    bytes_on_same l bs _ _ (λ j rest s. image_from_enough n p j rest (omega arith) (omega arith))

pub image_record_by_record : (l : Loading) (bs : List ℕ) → image_after l bs ≡ bytes_on l bs (λ j rest. image_after j rest)
unfolding image_after image_from
image_record_by_record l bs = bytes_on_same l bs _ _ (λ j rest s. image_from_enough (length bs) (suc (length rest)) j rest s (omega arith))

pub image_needs_rn : ImageNeedsRn
image_needs_rn l = image_record_by_record l [] ∙ (unfold bytes_on in refl)

-- A RECORD'S BYTES at the front
module _ (one rest : List ℕ) where
  pub number_at_front : (a n : ℕ) → a + n ≤ length one → number_at a n (one ++ rest) ≡ number_at a n one
  unfolding number_at
  number_at_front a n h =
      ap (big_endian 0)
      (ap (take n) (drop-append-le a one rest (omega arith))
      ∙ take-append-le n (drop a one) rest (let z = length-drop a one in omega arith))

  pub mark_of_front : 2 ≤ length one → mark_of (one ++ rest) ≡ mark_of one
  unfolding mark_of marked
  mark_of_front h = rw (get_or-append one rest 0 0 (omega arith), get_or-append one rest 0 1 (omega arith))

  pointer_at_front : (a : ℕ) → a + 5 ≤ length one → pointer_at a (one ++ rest) ≡ pointer_at a one
  unfolding pointer_at
  pointer_at_front a h =
      rw (number_at_front a 1 (omega arith), number_at_front (a + 1) 2 (omega arith), number_at_front (a + 3) 2 (omega arith))

  pointers_at_front : (n a : ℕ) → a + 5 * n ≤ length one → pointers_at n a (one ++ rest) ≡ pointers_at n a one
  unfolding pointers_at
  pointers_at_front zero a h = refl
  pointers_at_front (suc n) a h =
      ap₂ (λ p ps. p ∷ ps) (pointer_at_front a (omega arith)) (pointers_at_front n (a + 5) (omega arith))

  pub registers_at_front : 61 ≤ length one → registers_at (one ++ rest) ≡ registers_at one
  unfolding registers_at
  registers_at_front h =
      rw (number_at_front 2 8 (omega arith), number_at_front 10 4 (omega arith), number_at_front 14 2 (omega arith), pointer_at_front 16 (omega arith), pointers_at_front 8 21 (omega arith))

  delivery_at_front : (v : Rules) → start_size v ≤ length one → delivery_at v (one ++ rest) ≡ delivery_at v one
  unfolding delivery_at start_size
  delivery_at_front stored h = refl
  delivery_at_front today h = rw (number_at_front 61 1 (omega arith), number_at_front 62 2 (omega arith), number_at_front 64 2 (omega arith))
  delivery_at_front sizing h = rw (number_at_front 61 1 (omega arith), number_at_front 62 2 (omega arith), number_at_front 64 2 (omega arith))

  record_on_front : (k : Mark) (l : Loading) (f : Loading → Image) → record_size l.rules k ≤ length one →
      record_on k l (one ++ rest) f ≡ record_on k l one f
  unfolding record_on with_record record_size
  record_on_front ME l f h = rw (number_at_front 2 4 (omega arith))
  record_on_front ST l f h = rw (registers_at_front (let y = start_has_registers l.rules in omega arith), delivery_at_front l.rules h)
  record_on_front WD l f h = rw (number_at_front 2 4 (omega arith), number_at_front 6 8 (omega arith))
  record_on_front RN l f h = rw (number_at_front 2 4 (omega arith))

  pub questions_front : (k : Mark) (l : Loading) (n : ℕ) → 6 ≤ length one → record_questions k l n (one ++ rest) ≡ record_questions k l n one
  unfolding record_questions memory_allowed address_allowed address_new
  questions_front ME l n h = rw (number_at_front 2 4 (omega arith))
  questions_front ST l n h = refl
  questions_front WD l n h = rw (number_at_front 2 4 (omega arith))
  questions_front RN l n h = refl

  whole_record_front : (k : Mark) (l : Loading) (n : ℕ) (f : Loading → Image) → record_size l.rules k ≤ length one →
      whole_record_on k l n (one ++ rest) f ≡ whole_record_on k l n one f
  unfolding whole_record_on
  whole_record_front k l n f h =
      ap₂ (λ q x. unless_refused q refused_image x) (questions_front k l n (let y = record_has_a_number l.rules k in omega arith)) (record_on_front k l f h)

bytes_are_marked : (l : Loading) (bs : List ℕ) (f : Loading → List ℕ → Image) → 1 ≤ length bs → bytes_on l bs f ≡ marked_on (mark_of bs) l bs f
unfolding bytes_on
bytes_are_marked l [] f h = absurd (omega arith)
bytes_are_marked l (b ∷ bs) f h = refl

whole_is_marked : (k : Mark) (l : Loading) (bs : List ℕ) (f : Loading → List ℕ → Image) → record_size l.rules k ≤ length bs →
    marked_on (some k) l bs f ≡ whole_record_on k l (length (drop (record_size l.rules k) bs)) bs (λ j. f j (drop (record_size l.rules k) bs))
unfolding marked_on
whole_is_marked k l bs f h = rw (le-leb _ _ h)

pub image_is_records : ImageIsRecords
image_is_records k l one rest is_marked sized =
    let two = record_has_a_mark l.rules k in
    let long = length-append one rest in
    let f : Loading → List ℕ → Image = λ j bs. image_after j bs in
    image_record_by_record l (one ++ rest) ∙ bytes_are_marked l (one ++ rest) f (omega arith)
    ∙ ap (λ x. marked_on x l (one ++ rest) f) (mark_of_front one rest (omega arith) ∙ is_marked)
    ∙ whole_is_marked k l (one ++ rest) f (omega arith)
    ∙ ap (λ z. whole_record_on k l (length z) (one ++ rest) (λ j. image_after j z)) (drop_at one rest (record_size l.rules k) sized)
    ∙ whole_record_front one rest k l (length rest) (λ j. image_after j rest) (omega arith)

-- 1 TO 4, once RN has come
module _ (v : Delivery) (m : Machine) (b n : ℕ) (e : n ≡ start_questions v m) where
  pub checked_refused : (n ≡ 0 → ⊥) → checked v m b ≡ refused_image n
  unfolding checked unless_refused
  checked_refused h = ap (λ a. unless_refused a refused_image (loaded v m b)) (sym e) ∙ by_number n h
    where
      by_number : (k : ℕ) → (k ≡ 0 → ⊥) → unless_refused k refused_image (loaded v m b) ≡ refused_image k
      by_number zero h = absurd (h refl)
      by_number (suc k) h = refl

  pub checked_passed : n ≡ 0 → checked v m b ≡ loaded v m b
  unfolding checked unless_refused
  checked_passed z = ap (λ a. unless_refused a refused_image (loaded v m b)) (sym e ∙ z)
