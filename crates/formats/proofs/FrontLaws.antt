-- An image by the record in front of it, and what its acceptance says. Assumes nothing.
use mathlib.Core.Path.{◌≡◌, refl, sym, ◌∙◌, ap, subst}
use mathlib.Core.Bool.{true, ◌&&◌, not, cond}
use mathlib.Core.List.{List, [], ◌∷◌, ◌++◌, append_assoc}
use mathlib.Core.Option.{Option, none, some}
use Prim.Native.Nat.{ℕ, zero, suc, ◌+◌}
use native.Mathlib.Omega.{arith}
use lib.Dec.{eqb}
use lib.ListN.{length, length-append}
use borrow.Author.Tests.{not-true, lt-leb, eqb-true}
use Rattle.model.specs.Registers.{Delivery, Machine}
use Rattle.model.specs.Run.{unless_refused}
use Rattle.model.specs.Image.{Rules, Mark, ME, ST, WD, RN, mark_of, record_size, Loading, has, in_order, memory_allowed, address_allowed, address_new, record_questions, with_word, with_record, Image, refused_image, loaded, record_on, whole_record_on, marked_on, bytes_on, image_after}
use Rattle.model.specs.Convert.{size_by, front_size, joined, is_start}
use Rattle.model.proofs.BranchLaws.{and_left, and_right}
use Rattle.model.proofs.QuestionLaws.{ask_yes}
use Rattle.formats.proofs.ImageLaws.{record_has_a_mark, image_record_by_record, image_is_records}
use Rattle.formats.proofs.CutLaws.{too_short, Whole, AllWhole}

-- A RECORD IN FRONT of others
module _ {v : Rules} (l : Loading) (r : l.rules ≡ v) (x : List ℕ) (xs : List (List ℕ)) (t : List ℕ) (w : Whole v x) where
  pub image_front : image_after l (joined (x ∷ xs) ++ t) ≡ whole_record_on w.mark l (length (joined xs ++ t)) x (λ j. image_after j (joined xs ++ t))
  unfolding joined
  image_front =
      ap (image_after l) (append_assoc x (joined xs) t)
      ∙ image_is_records w.mark l x (joined xs ++ t) w.is_marked (w.sized ∙ ap (λ u. record_size u w.mark) (sym r))

-- no whole record in front: the bytes alone decide
part_is_41 : (k : Option Mark) (l : Loading) (bs : List ℕ) (f : Loading → List ℕ → Image) → size_by l.rules k (length bs) ≡ 0 → marked_on k l bs f ≡ refused_image 41
unfolding marked_on size_by
part_is_41 none l bs f e = refl
part_is_41 (some k) l bs f e = rw (lt-leb (record_size l.rules k) (length bs) (too_short l.rules k (length bs) e)) refl

unfoldable pub part_number : List ℕ → ℕ
part_number [] = 42
part_number (b ∷ bs) = 41

pub part_refused : (l : Loading) (t : List ℕ) → front_size l.rules t ≡ 0 → image_after l t ≡ refused_image (part_number t)
unfolding part_number bytes_on front_size
part_refused l [] e = image_record_by_record l []
part_refused l (b ∷ bs) e = image_record_by_record l (b ∷ bs) ∙ part_is_41 (mark_of (b ∷ bs)) l (b ∷ bs) _ e

-- two that ask alike
pub whole_same : (k : Mark) (l j : Loading) (n p : ℕ) (x y : List ℕ) (f g : Loading → Image) → record_questions k l n x ≡ record_questions k j p y →
    (record_questions k l n x ≡ 0 → record_on k l x f ≡ record_on k j y g) → whole_record_on k l n x f ≡ whole_record_on k j p y g
unfolding whole_record_on unless_refused
whole_same k l j n p x y f g q h = rw (← q) (by_number (record_questions k l n x) h)
  where
    by_number : (c : ℕ) → (c ≡ 0 → record_on k l x f ≡ record_on k j y g) →
        unless_refused c refused_image (record_on k l x f) ≡ unless_refused c refused_image (record_on k j y g)
    by_number zero h = h refl
    by_number (suc c) h = refl

-- one that is accepted has passed its questions
abbrev Accepted : Image → Type 0
Accepted (refused_image n) = ⊥
Accepted (loaded d m b) = Unit {0}

accepted : {i : Image} {d : Delivery} {m : Machine} {b : ℕ} → i ≡ loaded d m b → Accepted i
accepted e = subst Accepted (sym e) tt

pub whole_accepted : (k : Mark) (l : Loading) (n : ℕ) (x : List ℕ) (f : Loading → Image) (d : Delivery) (m : Machine) (b : ℕ) → whole_record_on k l n x f ≡ loaded d m b →
    (record_questions k l n x ≡ 0) × (record_on k l x f ≡ loaded d m b)
unfolding whole_record_on unless_refused
whole_accepted k l n x f d m b e = by_number (record_questions k l n x) e
  where
    by_number : (c : ℕ) → unless_refused c refused_image (record_on k l x f) ≡ loaded d m b → (c ≡ 0) × (record_on k l x f ≡ loaded d m b)
    by_number zero e = (refl, e)
    by_number (suc c) e = absurd (accepted e)

-- WHAT A YES TO ALL SAYS
module _ (k : Mark) (l : Loading) (n : ℕ) (x : List ℕ) (q : record_questions k l n x ≡ 0) where
  pub ordered : in_order k l n ≡ true
  unfolding record_questions
  ordered = (ask_yes (in_order k l n) 41 _ q).0

  pub allowed : (memory_allowed k x ≡ true) × (address_allowed k l x ≡ true)
  unfolding record_questions
  allowed =
      let m = ask_yes (memory_allowed k x) 42 _ (ask_yes (in_order k l n) 41 _ q).1 in
      (m.0, (ask_yes (address_allowed k l x) 43 _ m.1).0)

  pub new : address_new k l x ≡ true
  unfolding record_questions
  new =
      let m = ask_yes (memory_allowed k x) 42 _ (ask_yes (in_order k l n) 41 _ q).1 in
      (ask_yes (address_new k l x) 50 _ (ask_yes (address_allowed k l x) 43 _ m.1).1).0

-- after RN no byte comes
pub last_has_none : (l : Loading) (n : ℕ) → in_order RN l n ≡ true → n ≡ 0
unfolding in_order
last_has_none l n e =
    eqb-true n 0 (and_right (has l.registers) (eqb n 0) (and_right (has l.memory) (has l.registers && eqb n 0) e))

pub records_have_bytes : {v : Rules} (x : List ℕ) (xs : List (List ℕ)) (t : List ℕ) → Whole v x → length (joined (x ∷ xs) ++ t) ≡ 0 → ⊥
unfolding joined
records_have_bytes {v} x xs t w e =
    let h = record_has_a_mark v w.mark in
    let y = length-append (x ++ joined xs) t in
    let z = length-append x (joined xs) in
    let s = w.sized in
    omega arith

-- an accepted image's first record has passed, and so has what comes after it
module _ {v : Rules} (l : Loading) (r : l.rules ≡ v) (x : List ℕ) (xs : List (List ℕ)) (t : List ℕ) (d : Delivery) (m : Machine) (b : ℕ) (w : Whole v x)
    (e : image_after l (joined (x ∷ xs) ++ t) ≡ loaded d m b) where
  pub passed : (record_questions w.mark l (length (joined xs ++ t)) x ≡ 0) × (record_on w.mark l x (λ j. image_after j (joined xs ++ t)) ≡ loaded d m b)
  passed = whole_accepted w.mark l (length (joined xs ++ t)) x _ d m b (sym (image_front l r x xs t w) ∙ e)

-- NO BYTE IS LEFT OVER of an accepted image
no_bytes_after : (xs : List (List ℕ)) (t : List ℕ) → length (joined xs ++ t) ≡ 0 → t ≡ []
no_bytes_after xs [] e = refl
no_bytes_after xs (b ∷ t) e = absurd (let y = length-append (joined xs) (b ∷ t) in omega arith)

last_record : (k : Mark) (l : Loading) (x : List ℕ) (xs : List (List ℕ)) (t : List ℕ) (d : Delivery) (m : Machine) (b : ℕ) → record_questions k l (length (joined xs ++ t)) x ≡ 0 →
    record_on k l x (λ j. image_after j (joined xs ++ t)) ≡ loaded d m b → ((j : Loading) → j.rules ≡ l.rules → image_after j (joined xs ++ t) ≡ loaded d m b → t ≡ []) → t ≡ []
unfolding record_on with_record with_word
last_record ME l x xs t d m b z e more = more (with_record ME l x) refl e
last_record ST l x xs t d m b z e more = more (with_record ST l x) refl e
last_record WD l x xs t d m b z e more = more (with_record WD l x) refl e
last_record RN l x xs t d m b z e more = no_bytes_after xs t (last_has_none l _ (ordered RN l _ x z))

pub accepted_whole : {v : Rules} (l : Loading) (xs : List (List ℕ)) (t : List ℕ) (d : Delivery) (m : Machine) (b : ℕ) → l.rules ≡ v → AllWhole v xs → front_size v t ≡ 0 →
    image_after l (joined xs ++ t) ≡ loaded d m b → t ≡ []
unfolding joined
accepted_whole l [] t d m b r w z e = absurd (accepted (sym (part_refused l t (rw r z)) ∙ e))
accepted_whole l (x ∷ xs) t d m b r w z e =
    let p = passed l r x xs t d m b w.0 e in
    last_record w.0.mark l x xs t d m b p.0 p.1 (λ j s f. accepted_whole j xs t d m b (s ∙ r) w.1 z f)

-- AN ACCEPTED IMAGE HAS ONE ST
unfoldable pub starts : List (List ℕ) → ℕ
starts [] = 0
starts (x ∷ xs) = cond (is_start (mark_of x)) (suc (starts xs)) (starts xs)

-- one that has yet to come, unless it has
abbrev starts_due : Loading → ℕ
starts_due l = cond (has l.registers) 0 1

module _ {v : Rules} (l : Loading) (r : l.rules ≡ v) (x : List ℕ) (xs : List (List ℕ)) (t : List ℕ) (d : Delivery) (m : Machine) (b : ℕ) (all : AllWhole v xs)
    (more : (j : Loading) → j.rules ≡ v → image_after j (joined xs ++ t) ≡ loaded d m b → starts xs ≡ starts_due j) where
  one_more_start : (k : Mark) → mark_of x ≡ some k → record_questions k l (length (joined xs ++ t)) x ≡ 0 →
      record_on k l x (λ j. image_after j (joined xs ++ t)) ≡ loaded d m b → starts (x ∷ xs) ≡ starts_due l
  unfolding record_on with_record with_word in_order starts is_start has
  one_more_start ME q z e = rw q (more (with_record ME l x) r e)
  one_more_start ST q z e =
      rw (q, not-true (has l.registers) (and_right (has l.memory) (not (has l.registers)) (ordered ST l _ x z))) (ap suc (more (with_record ST l x) r e))
  one_more_start WD q z e = rw q (more (with_record WD l x) r e)
  one_more_start RN q z e =
      let o = ordered RN l _ x z in
      let g = and_right (has l.memory) (has l.registers && eqb (length (joined xs ++ t)) 0) o in
      rw (q, and_left (has l.registers) (eqb (length (joined xs ++ t)) 0) g) (none_follow xs all (last_has_none l _ o))
    where
      none_follow : (ys : List (List ℕ)) → AllWhole v ys → length (joined ys ++ t) ≡ 0 → starts ys ≡ 0
      none_follow [] w e = refl
      none_follow (y ∷ ys) w e = absurd (records_have_bytes y ys t w.0 e)

pub accepted_starts : {v : Rules} (l : Loading) (xs : List (List ℕ)) (t : List ℕ) (d : Delivery) (m : Machine) (b : ℕ) → l.rules ≡ v → AllWhole v xs → front_size v t ≡ 0 →
    image_after l (joined xs ++ t) ≡ loaded d m b → starts xs ≡ starts_due l
unfolding joined
accepted_starts l [] t d m b r w z e = absurd (accepted (sym (part_refused l t (rw r z)) ∙ e))
accepted_starts l (x ∷ xs) t d m b r w z e =
    let p = passed l r x xs t d m b w.0 e in
    one_more_start l r x xs t d m b w.1 (λ j s f. accepted_starts j xs t d m b s w.1 z f) w.0.mark w.0.is_marked p.0 p.1
