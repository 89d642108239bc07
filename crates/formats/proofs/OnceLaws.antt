-- Today's rules read renewed records as the stored ones read them, where no word is written twice, and accept nothing else. Assumes nothing.
use mathlib.Core.Path.{◌≡◌, refl, sym, ◌∙◌, ap, ap₂, subst}
use mathlib.Core.Bool.{Bool, true, false, ◌&&◌, ◌||◌, false≢true}
use mathlib.Core.List.{List, [], ◌∷◌, ◌++◌, map}
use mathlib.Core.Option.{Option, none, some}
use Prim.Native.Nat.{ℕ, ◌+◌, ◌≤◌, ◌<◌}
use native.Mathlib.Omega.{arith}
use lib.Dec.{eqb}
use lib.ListN.{length, take, drop, replicate, length-append, length-set, length-replicate}
use lib.Seq.{drop-append-add}
use borrow.Author.Tests.{not-true, eqb-true, ltb-true, leb-true, lt-leb, eq-eqb, ne_eqb}
use Rattle.model.specs.Registers.{Delivery, no_delivery, Machine}
use Rattle.model.specs.Questions.{ask}
use Rattle.model.specs.Image.{stored, today, Mark, ME, ST, WD, RN, mark_of, start_size, record_size, number_at, big_endian, delivery_at, Loading, has, memory_of, or_else, machine_of, in_order, memory_allowed, address_allowed, unless_written, address_new, record_questions, with_written, words_with, with_word, with_record, Image, loaded, record_on, image_after}
use Rattle.model.specs.Convert.{size_by, front_size, joined, is_word, writes, some_writes, superseded, added, renewed}
use Rattle.model.specs.Converted.{OneAnAddress}
use Rattle.model.proofs.BranchLaws.{or_left, or_right, or_none}
use Rattle.formats.proofs.ImageLaws.{record_has_a_number, mark_of_front, number_at_front, registers_at_front, questions_front}
use Rattle.formats.proofs.CutLaws.{too_short, Whole, AllWhole}
use Rattle.formats.proofs.LastLaws.{not_a_word, word_writes, writes_its_own}
use Rattle.formats.proofs.FrontLaws.{image_front, part_refused, whole_same, ordered, allowed, new, last_has_none, records_have_bytes, passed}

-- A RENEWED RECORD is whole by today's sizes, and its mark, address and word are what they were
sizes_renewed : (k : Mark) → record_size stored k + length (added (some k)) ≡ record_size today k
unfolding record_size start_size added
sizes_renewed ME = refl
sizes_renewed ST = refl
sizes_renewed WD = refl
sizes_renewed RN = refl

module _ (x : List ℕ) (w : Whole stored x) where
  six_or_more : 6 ≤ length x
  six_or_more = let h = record_has_a_number stored w.mark in let s = w.sized in omega arith

  mark_renewed : mark_of (renewed x) ≡ mark_of x
  unfolding renewed
  mark_renewed = mark_of_front x (added (mark_of x)) (let h = six_or_more in omega arith)

  address_renewed : number_at 2 4 (renewed x) ≡ number_at 2 4 x
  unfolding renewed
  address_renewed = number_at_front x (added (mark_of x)) 2 4 six_or_more

  writes_renewed : (a : ℕ) → writes a (renewed x) ≡ writes a x
  unfolding writes
  writes_renewed a = rw (mark_renewed, address_renewed) refl

  whole_renewed : Whole today (renewed x)
  unfolding renewed
  whole_renewed =
      record {
        mark = w.mark;
        is_marked = mark_renewed ∙ w.is_marked;
        sized =
            length-append x (added (mark_of x)) ∙ ap₂ (λ n k. n + length (added k)) w.sized w.is_marked ∙ sizes_renewed w.mark;
      }

pub all_whole_renewed : (xs : List (List ℕ)) → AllWhole stored xs → AllWhole today (map renewed xs)
all_whole_renewed [] w = tt
all_whole_renewed (x ∷ xs) w = (whole_renewed x w.0, all_whole_renewed xs w.1)

pub some_writes_renewed : (a : ℕ) (xs : List (List ℕ)) → AllWhole stored xs → some_writes a (map renewed xs) ≡ some_writes a xs
unfolding some_writes
some_writes_renewed a [] w = refl
some_writes_renewed a (x ∷ xs) w = ap₂ ◌||◌ (writes_renewed x w.0 a) (some_writes_renewed a xs w.1)

pub once_renewed : (xs : List (List ℕ)) → AllWhole stored xs → OneAnAddress xs → OneAnAddress (map renewed xs)
unfolding OneAnAddress superseded
once_renewed [] w h = tt
once_renewed (x ∷ xs) w h =
    let a = number_at 2 4 x in
    (rw (address_renewed x w.0, writes_renewed x w.0 a, some_writes_renewed a xs w.1) h.0, once_renewed xs w.1 h.1)

-- what is no whole record by the stored sizes is none today
pub no_record_today : (t : List ℕ) → front_size stored t ≡ 0 → front_size today t ≡ 0
unfolding front_size size_by
no_record_today t e = by_mark (mark_of t) e
  where
    by_mark : (k : Option Mark) → size_by stored k (length t) ≡ 0 → size_by today k (length t) ≡ 0
    by_mark none z = refl
    by_mark (some k) z = rw (lt-leb (record_size today k) (length t) (let h = too_short stored k (length t) z in let y = sizes_renewed k in omega arith)) refl

-- TODAY'S RULES on renewed records: where no word is written twice, they are as the stored ones on those that were renewed
unfoldable pub as_stored : Loading → Loading
as_stored l = record { rules = stored; memory = l.memory; written = λ _. false; registers = l.registers; delivery = l.delivery }

-- no word that a WD has written is written again
abbrev pub NotAgain : Loading → List (List ℕ) → Type 0
NotAgain l xs = (a : ℕ) → l.written a ≡ true → some_writes a xs ≡ false

module _ (l : Loading) (v : l.rules ≡ today) (fits : length (memory_of l) ≤ 8192) (x : List ℕ) (xs : List (List ℕ))
    (again : NotAgain l (x ∷ xs)) (s : superseded x xs ≡ false) where
  not_later : NotAgain l xs
  unfolding some_writes
  not_later a h = (or_none (writes a x) (some_writes a xs) (again a h)).1

  module _ (q : mark_of x ≡ some WD) (inside : number_at 2 4 x < length (memory_of l)) where
    its_word : writes (number_at 2 4 x) x ≡ true
    its_word = word_writes (number_at 2 4 x) x q refl (omega arith)

    not_yet : l.written (number_at 2 4 x) ≡ false
    unfolding some_writes
    not_yet = by_test (l.written (number_at 2 4 x)) refl
      where
        by_test : (b : Bool) → l.written (number_at 2 4 x) ≡ b → b ≡ false
        by_test true e = absurd (false≢true (sym (or_none _ _ (again (number_at 2 4 x) e)).0 ∙ its_word))
        by_test false e = refl

    not_its_word : some_writes (number_at 2 4 x) xs ≡ false
    unfolding superseded
    not_its_word = sym (rw its_word refl) ∙ s

  new_word : mark_of x ≡ some WD → address_allowed WD l x ≡ true → address_new WD l x ≡ true
  unfolding address_allowed address_new unless_written
  new_word q e = rw (v, not_yet q (ltb-true _ _ e)) refl

  asked_alike : (k : Mark) (n p : ℕ) → eqb n 0 ≡ eqb p 0 → mark_of x ≡ some k → record_questions k l n x ≡ record_questions k (as_stored l) p x
  unfolding record_questions in_order memory_allowed address_allowed address_new unless_written ask memory_of as_stored
  asked_alike ME n p e q = refl
  asked_alike ST n p e q = refl
  asked_alike WD n p e q = ap (λ c. ask (has l.memory) 42 (ask true 43 c)) (by_test (address_allowed WD l x) (new_word q))
    where
      by_test : (b : Bool) → (b ≡ true → address_new WD l x ≡ true) → ask b 44 (ask (address_new WD l x) 51 0) ≡ ask b 44 (ask true 51 0)
      by_test true h = ap (λ c. ask c 51 0) (h refl)
      by_test false h = refl
  asked_alike RN n p e q = rw e refl

  module _ (f g : Loading → Image) (more : (j : Loading) → j.rules ≡ today → length (memory_of j) ≤ 8192 → NotAgain j xs → f j ≡ g (as_stored j)) where
    memory_fits_still : (n : ℕ) → record_questions ME l n x ≡ 0 → length (memory_of (with_record ME l x)) ≤ 8192
    unfolding with_record memory_of or_else memory_allowed
    memory_fits_still n z = subst (λ c. c ≤ 8192) (sym (length-replicate (number_at 2 4 x) 0)) (leb-true (number_at 2 4 x) 8192 (allowed ME l n x z).0)

    word_fits_still : length (memory_of (with_record WD l x)) ≤ 8192
    unfolding with_record with_word words_with memory_of or_else
    word_fits_still = rw v (subst (λ c. c ≤ 8192) (sym (length-set (memory_of l) (number_at 2 4 x) (number_at 6 8 x))) fits)

    not_after : (n : ℕ) → mark_of x ≡ some WD → record_questions WD l n x ≡ 0 → NotAgain (with_record WD l x) xs
    unfolding with_record with_word with_written address_allowed
    not_after n q z b h = by_test (eqb (number_at 2 4 x) b) refl (rw v at h)
      where
        by_test : (c : Bool) → eqb (number_at 2 4 x) b ≡ c → (c || l.written b) ≡ true → some_writes b xs ≡ false
        by_test true e g =
            subst (λ d. some_writes d xs ≡ false) (eqb-true (number_at 2 4 x) b e) (not_its_word q (ltb-true _ _ (allowed WD l n x z).1))
        by_test false e g = not_later b g

    -- `y` is what was renewed
    loaded_alike : (k : Mark) (n : ℕ) → mark_of x ≡ some k → record_questions k l n x ≡ 0 → (y : List ℕ) →
        as_stored (with_record k l x) ≡ with_record k (as_stored l) y → number_at 2 4 x ≡ number_at 2 4 y → record_on k l x f ≡ record_on k (as_stored l) y g
    unfolding record_on with_record with_word with_written memory_of machine_of as_stored
    loaded_alike ME n q z y e a = more (with_record ME l x) v (memory_fits_still n z) not_later ∙ ap g e
    loaded_alike ST n q z y e a = more (with_record ST l x) v fits not_later ∙ ap g e
    loaded_alike WD n q z y e a = more (with_record WD l x) v word_fits_still (not_after n q z) ∙ ap g e
    loaded_alike RN n q z y e a = rw a refl

-- a number in the bytes that were added
number_after : (one rest : List ℕ) (at a n : ℕ) → at ≡ length one + a → number_at at n (one ++ rest) ≡ number_at a n rest
unfolding number_at
number_after one rest at a n e = ap (λ bs. big_endian 0 (take n bs)) (ap (λ c. drop c (one ++ rest)) e ∙ drop-append-add one rest a)

delivery_renewed : (x : List ℕ) → length x ≡ 61 → delivery_at today (x ++ replicate 5 0) ≡ no_delivery
unfolding delivery_at number_at big_endian
delivery_renewed x e =
    let zeros : List ℕ = replicate 5 0 in
    rw (number_after x zeros 61 0 1 (omega arith), number_after x zeros 62 1 2 (omega arith), number_after x zeros 64 3 2 (omega arith)) refl

loads_renewed : (k : Mark) (l : Loading) (x : List ℕ) → l.rules ≡ today → mark_of x ≡ some k → length x ≡ record_size stored k →
    as_stored (with_record k l (renewed x)) ≡ with_record k (as_stored l) x
unfolding as_stored with_record with_word with_written words_with memory_of renewed added record_size start_size delivery_at
loads_renewed ME l x v q e = rw (number_at_front x (added (mark_of x)) 2 4 (omega arith)) refl
loads_renewed ST l x v q e = rw (q, v, registers_at_front x (replicate 5 0) (omega arith), delivery_renewed x e) refl
loads_renewed WD l x v q e = rw (v, number_at_front x (added (mark_of x)) 2 4 (omega arith), number_at_front x (added (mark_of x)) 6 8 (omega arith)) refl
loads_renewed RN l x v q e = refl

-- none follow the renewed where none followed
none_alike : (xs : List (List ℕ)) (t : List ℕ) → AllWhole stored xs → eqb (length (joined (map renewed xs) ++ t)) 0 ≡ eqb (length (joined xs ++ t)) 0
none_alike [] t w = refl
none_alike (x ∷ xs) t w =
    ne_eqb _ 0 (records_have_bytes (renewed x) (map renewed xs) t (whole_renewed x w.0)) ∙ sym (ne_eqb _ 0 (records_have_bytes x xs t w.0))

pub today_as_stored_where_once : (l : Loading) (xs : List (List ℕ)) (t : List ℕ) → l.rules ≡ today → length (memory_of l) ≤ 8192 → AllWhole stored xs →
    front_size stored t ≡ 0 → OneAnAddress (map renewed xs) → NotAgain l (map renewed xs) →
    image_after l (joined (map renewed xs) ++ t) ≡ image_after (as_stored l) (joined xs ++ t)
unfolding OneAnAddress joined as_stored whole_renewed renewed
today_as_stored_where_once l [] t v fits w z h again = part_refused l t (rw v (no_record_today t z)) ∙ sym (part_refused (as_stored l) t z)
today_as_stored_where_once l (x ∷ xs) t v fits w z h again =
    let k = w.0.mark in
    let y = renewed x in
    let ys = map renewed xs in
    let n = length (joined ys ++ t) in
    let p = length (joined xs ++ t) in
    let f : Loading → Image = λ j. image_after j (joined ys ++ t) in
    let g : Loading → Image = λ j. image_after j (joined xs ++ t) in
    let q = (whole_renewed x w.0).is_marked in
    image_front l v y ys t (whole_renewed x w.0)
    ∙ whole_same k l (as_stored l) n p y x f g
    (asked_alike l v fits y ys again h.0 k n p (none_alike xs t w.1) q ∙ questions_front x (added (mark_of x)) k (as_stored l) p (six_or_more x w.0))
    (λ e.
    loaded_alike l v fits y ys again h.0 f g (λ j r s a. today_as_stored_where_once j xs t r s w.1 z h.1 a) k n q e x
    (loads_renewed k l x v w.0.is_marked w.0.sized) (address_renewed x w.0))
    ∙ sym (image_front (as_stored l) refl x xs t w.0)

-- what today's rules accept has no word that is written twice
module _ (l : Loading) (v : l.rules ≡ today) (x : List ℕ) (xs : List (List ℕ)) (n : ℕ) where
  abbrev OnceFrom : Loading → List (List ℕ) → Type 0
  OnceFrom j ys = OneAnAddress ys × NotAgain j ys

  not_a_word_once : (k : Mark) → mark_of x ≡ some k → is_word (some k) ≡ false → OnceFrom l xs → OnceFrom l (x ∷ xs)
  unfolding OneAnAddress superseded some_writes
  not_a_word_once k q e o = ((rw (not_a_word k (number_at 2 4 x) x q e) refl, o.0), λ a h. rw (not_a_word k a x q e) (o.1 a h))

  module _ (z : record_questions WD l n x ≡ 0) (o : OnceFrom (with_record WD l x) xs) where
    not_again_after : (b : ℕ) → (eqb (number_at 2 4 x) b || l.written b) ≡ true → some_writes b xs ≡ false
    unfolding with_record with_word with_written
    not_again_after b h = o.1 b (rw v h)

    was_new : l.written (number_at 2 4 x) ≡ false
    unfolding address_new unless_written
    was_new = not-true (l.written (number_at 2 4 x)) (rw v at (new WD l n x z))

    not_its_own : (b : ℕ) → l.written b ≡ true → writes b x ≡ false
    not_its_own b h = by_test (writes b x) refl
      where
        by_test : (c : Bool) → writes b x ≡ c → c ≡ false
        by_test true e = absurd (false≢true (sym was_new ∙ ap l.written (writes_its_own b x e) ∙ h))
        by_test false e = refl

    word_once : OnceFrom l (x ∷ xs)
    unfolding OneAnAddress superseded some_writes
    word_once =
        let a = number_at 2 4 x in
        let last : some_writes a xs ≡ false = not_again_after a (or_left (eqb a a) (l.written a) (eq-eqb a a refl)) in
        ((rw last (and_none (writes a x)), o.0), λ b h. rw (not_its_own b h) (not_again_after b (or_right (eqb a b) (l.written b) h)))
      where
        and_none : (c : Bool) → (c && false) ≡ false
        and_none true = refl
        and_none false = refl

none_once : (l : Loading) (xs : List (List ℕ)) (t : List ℕ) → AllWhole today xs → length (joined xs ++ t) ≡ 0 → OneAnAddress xs × NotAgain l xs
unfolding OneAnAddress some_writes
none_once l [] t w e = (tt, λ a h. refl)
none_once l (x ∷ xs) t w e = absurd (records_have_bytes x xs t w.0 e)

module _ (l : Loading) (v : l.rules ≡ today) (x : List ℕ) (xs : List (List ℕ)) (t : List ℕ) (d : Delivery) (m : Machine) (b : ℕ) (all : AllWhole today xs)
    (more : (j : Loading) → j.rules ≡ today → image_after j (joined xs ++ t) ≡ loaded d m b → OneAnAddress xs × NotAgain j xs) where
  one_more_once : (k : Mark) → mark_of x ≡ some k → record_questions k l (length (joined xs ++ t)) x ≡ 0 →
      record_on k l x (λ j. image_after j (joined xs ++ t)) ≡ loaded d m b → OneAnAddress (x ∷ xs) × NotAgain l (x ∷ xs)
  unfolding record_on with_record with_word is_word
  one_more_once ME q z e = not_a_word_once l v x xs 0 ME q refl (more (with_record ME l x) v e)
  one_more_once ST q z e = not_a_word_once l v x xs 0 ST q refl (more (with_record ST l x) v e)
  one_more_once WD q z e = word_once l v x xs (length (joined xs ++ t)) z (more (with_record WD l x) v e)
  one_more_once RN q z e = not_a_word_once l v x xs 0 RN q refl (none_once l xs t all (last_has_none l _ (ordered RN l _ x z)))

pub accepted_once : (l : Loading) (xs : List (List ℕ)) (t : List ℕ) (d : Delivery) (m : Machine) (b : ℕ) → l.rules ≡ today → AllWhole today xs →
    image_after l (joined xs ++ t) ≡ loaded d m b → OneAnAddress xs × NotAgain l xs
unfolding OneAnAddress some_writes
accepted_once l [] t d m b v w e = (tt, λ a h. refl)
accepted_once l (x ∷ xs) t d m b v w e =
    let p = passed l v x xs t d m b w.0 e in
    one_more_once l v x xs t d m b w.1 (λ j r f. accepted_once j xs t d m b r w.1 f) w.0.mark w.0.is_marked p.0 p.1
