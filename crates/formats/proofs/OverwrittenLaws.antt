-- By the stored rules a word that a later record writes may be anything before, so that the last of each address is enough. Assumes nothing.
use mathlib.Core.Path.{◌≡◌, refl, sym, ◌∙◌, ap}
use mathlib.Core.Bool.{Bool, true, false, false≢true}
use mathlib.Core.List.{List, [], ◌∷◌, ◌++◌, append-nil}
use mathlib.Core.Option.{some}
use Prim.Native.Nat.{ℕ}
use lib.Dec.{eqb}
use lib.ListN.{length, set, length-set}
use lib.Seq.{set-set, set_comm}
use borrow.Author.Tests.{eqb-true, eqb-false}
use Rattle.model.specs.Registers.{Delivery, Machine}
use Rattle.model.specs.Run.{unless_refused}
use Rattle.model.specs.Image.{Mark, ME, ST, WD, RN, mark_of, number_at, stored, Loading, has, memory_of, or_else, in_order, address_allowed, unless_written, address_new, record_questions, with_written, words_with, with_word, with_record, Image, loaded, record_on, whole_record_on, image_after}
use Rattle.model.specs.Convert.{joined, is_word, writes, some_writes, superseded, last_of_each}
use Rattle.model.proofs.BranchLaws.{cond_holds, and_left, and_right, or_rest}
use Rattle.formats.proofs.CutLaws.{AllWhole}
use Rattle.formats.proofs.LastLaws.{not_a_word, none_lost, last_of_each_whole}
use Rattle.formats.proofs.FrontLaws.{image_front, whole_same, ordered, last_has_none, records_have_bytes, passed}

-- A WORD THAT A LATER RECORD WRITES may be anything before, by the stored rules
record SameBut (a : ℕ) (l j : Loading) : Type 0 where
  rules_first : l.rules ≡ stored
  rules_second : j.rules ≡ stored
  registers_same : l.registers ≡ j.registers
  delivery_same : l.delivery ≡ j.delivery
  written_same : l.written ≡ j.written
  has_same : has l.memory ≡ has j.memory
  length_same : length (memory_of l) ≡ length (memory_of j)
  words_same : (v : ℕ) → set (memory_of l) a v ≡ set (memory_of j) a v

module _ (a : ℕ) (l j : Loading) (s : SameBut a l j) where
  questions_same : (k : Mark) (n : ℕ) (x : List ℕ) → record_questions k l n x ≡ record_questions k j n x
  unfolding record_questions in_order address_allowed address_new unless_written
  questions_same ME n x = rw s.has_same refl
  questions_same ST n x = rw (s.has_same, s.registers_same) refl
  questions_same WD n x = rw (s.has_same, s.length_same, s.rules_first, s.rules_second) refl
  questions_same RN n x = rw (s.has_same, s.registers_same) refl

  with_memory_same : (x : List ℕ) → with_record ME l x ≡ with_record ME j x
  unfolding with_record
  with_memory_same x = rw (s.rules_first, s.rules_second, s.written_same, s.registers_same, s.delivery_same) refl

  with_its_word : (v : ℕ) → with_word a v l ≡ with_word a v j
  unfolding with_word with_written words_with memory_of
  with_its_word v = rw (s.rules_first, s.rules_second, s.written_same, s.registers_same, s.delivery_same, s.words_same v) refl

  with_start : (x : List ℕ) → SameBut a (with_record ST l x) (with_record ST j x)
  unfolding with_record memory_of
  with_start x =
      record {
        rules_first = s.rules_first;
        rules_second = s.rules_second;
        registers_same = refl;
        delivery_same = rw (s.rules_first, s.rules_second) refl;
        written_same = s.written_same;
        has_same = s.has_same;
        length_same = s.length_same;
        words_same = s.words_same;
      }

  with_other_word : (c v : ℕ) → (c ≡ a → ⊥) → SameBut a (with_word c v l) (with_word c v j)
  unfolding with_word with_written words_with has memory_of or_else
  with_other_word c v h =
      record {
        rules_first = s.rules_first;
        rules_second = s.rules_second;
        registers_same = s.registers_same;
        delivery_same = s.delivery_same;
        written_same = rw (s.rules_first, s.rules_second) s.written_same;
        has_same = refl;
        length_same = rw (s.rules_first, s.rules_second) (length-set (memory_of l) c v ∙ s.length_same ∙ sym (length-set (memory_of j) c v));
        words_same =
            λ u.
            rw (s.rules_first, s.rules_second)
            (set_comm (memory_of l) c a v u h ∙ ap (λ ws. set ws c v) (s.words_same u) ∙ sym (set_comm (memory_of j) c a v u h));
      }

-- one record more, where what comes after it is alike
module _ (a : ℕ) (l j : Loading) (s : SameBut a l j) (x : List ℕ) (xs : List (List ℕ)) (t : List ℕ) (all : AllWhole stored xs)
    (h : some_writes a (x ∷ xs) ≡ true)
    (more : (i o : Loading) → SameBut a i o → some_writes a xs ≡ true → image_after i (joined xs ++ t) ≡ image_after o (joined xs ++ t)) where
  abbrev onward : Loading → Image
  onward i = image_after i (joined xs ++ t)

  later : (k : Mark) → mark_of x ≡ some k → is_word (some k) ≡ false → some_writes a xs ≡ true
  unfolding some_writes
  later k q e = or_rest (writes a x) (some_writes a xs) (not_a_word k a x q e) h

  some_follow : some_writes a xs ≡ true → length (joined xs ++ t) ≡ 0 → ⊥
  unfolding some_writes
  some_follow g = by_records xs all g
    where
      by_records : (ys : List (List ℕ)) → AllWhole stored ys → some_writes a ys ≡ true → length (joined ys ++ t) ≡ 0 → ⊥
      by_records [] w g e = absurd (false≢true g)
      by_records (y ∷ ys) w g e = records_have_bytes y ys t w.0 e

  overwritten_word : mark_of x ≡ some WD → onward (with_record WD l x) ≡ onward (with_record WD j x)
  unfolding with_record writes is_word some_writes
  overwritten_word q = by_test (eqb (number_at 2 4 x) a) refl
    where
      by_test : (b : Bool) → eqb (number_at 2 4 x) a ≡ b → onward (with_record WD l x) ≡ onward (with_record WD j x)
      by_test true e = rw (eqb-true (number_at 2 4 x) a e) (ap onward (with_its_word a l j s (number_at 6 8 x)))
      by_test false e =
          more _ _ (with_other_word a l j s (number_at 2 4 x) (number_at 6 8 x) (eqb-false (number_at 2 4 x) a e))
          (or_rest (writes a x) (some_writes a xs) (rw (q, e) refl) h)

  overwritten_on : (k : Mark) → mark_of x ≡ some k → record_questions k l (length (joined xs ++ t)) x ≡ 0 → record_on k l x onward ≡ record_on k j x onward
  unfolding record_on is_word
  overwritten_on ME q z = ap onward (with_memory_same a l j s x)
  overwritten_on ST q z = more _ _ (with_start a l j s x) (later ST q refl)
  overwritten_on WD q z = overwritten_word q
  overwritten_on RN q z = absurd (some_follow (later RN q refl) (last_has_none l _ (ordered RN l _ x z)))

overwritten_same : (a : ℕ) (l j : Loading) (xs : List (List ℕ)) (t : List ℕ) → SameBut a l j → AllWhole stored xs → some_writes a xs ≡ true →
    image_after l (joined xs ++ t) ≡ image_after j (joined xs ++ t)
unfolding some_writes
overwritten_same a l j [] t s w h = absurd (false≢true h)
overwritten_same a l j (x ∷ xs) t s w h =
    let n = length (joined xs ++ t) in
    let f : Loading → Image = λ i. image_after i (joined xs ++ t) in
    image_front l s.rules_first x xs t w.0
    ∙ whole_same w.0.mark l j n n x x f f (questions_same a l j s w.0.mark n x)
    (overwritten_on a l j s x xs t w.1 h (λ i o r g. overwritten_same a i o xs t r w.1 g) w.0.mark w.0.is_marked)
    ∙ sym (image_front j s.rules_second x xs t w.0)

-- THE LAST OF EACH is as all of them, by the stored rules
module _ (l : Loading) (v : l.rules ≡ stored) where
  its_word_may_wait : (a c : ℕ) → has l.memory ≡ true → SameBut a l (with_word a c l)
  unfolding with_word with_written words_with has memory_of or_else
  its_word_may_wait a c h =
      record {
        rules_first = v;
        rules_second = v;
        registers_same = refl;
        delivery_same = refl;
        written_same = rw v refl;
        has_same = h;
        length_same = rw v (sym (length-set (memory_of l) a c));
        words_same = λ u. rw v (sym (set-set (memory_of l) a c u));
      }

-- the same record is accepted before other bytes that are accepted where those were
questions_before : (k : Mark) (l : Loading) (n p : ℕ) (x : List ℕ) → (n ≡ 0 → p ≡ 0) → record_questions k l n x ≡ 0 → record_questions k l p x ≡ 0
unfolding record_questions in_order
questions_before ME l n p x z q = q
questions_before ST l n p x z q = q
questions_before WD l n p x z q = q
questions_before RN l n p x z q = let e = last_has_none l n (ordered RN l n x q) in rw (z e) (rw e at q)

accepted_before : (k : Mark) (l : Loading) (n p : ℕ) (x : List ℕ) (f g : Loading → Image) (d : Delivery) (m : Machine) (b : ℕ) →
    record_questions k l n x ≡ 0 → record_on k l x f ≡ loaded d m b → ((j : Loading) → j.rules ≡ l.rules → f j ≡ loaded d m b → g j ≡ loaded d m b) → (n ≡ 0 → p ≡ 0) →
    whole_record_on k l p x g ≡ loaded d m b
unfolding whole_record_on unless_refused record_on with_record with_word
accepted_before ME l n p x f g d m b q e h z = rw (questions_before ME l n p x z q) (h (with_record ME l x) refl e)
accepted_before ST l n p x f g d m b q e h z = rw (questions_before ST l n p x z q) (h (with_record ST l x) refl e)
accepted_before WD l n p x f g d m b q e h z = rw (questions_before WD l n p x z q) (h (with_record WD l x) refl e)
accepted_before RN l n p x f g d m b q e h z = rw (questions_before RN l n p x z q) e

none_before_none : (xs : List (List ℕ)) (t : List ℕ) → AllWhole stored xs → length (joined xs ++ t) ≡ 0 → length (joined (last_of_each xs) ++ t) ≡ 0
unfolding last_of_each
none_before_none [] t w e = e
none_before_none (x ∷ xs) t w e = absurd (records_have_bytes x xs t w.0 e)

-- a dropped record: what it wrote is written again
module _ (l : Loading) (v : l.rules ≡ stored) (x : List ℕ) (xs : List (List ℕ)) (t : List ℕ) (d : Delivery) (m : Machine) (b : ℕ) (all : AllWhole stored xs)
    (more : (j : Loading) → j.rules ≡ stored → image_after j (joined xs ++ t) ≡ loaded d m b → image_after j (joined (last_of_each xs) ++ t) ≡ loaded d m b)
    (s : superseded x xs ≡ true) where
  a : ℕ
  a = number_at 2 4 x

  it_writes : writes a x ≡ true
  unfolding a superseded
  it_writes = and_left (writes (number_at 2 4 x) x) (some_writes (number_at 2 4 x) xs) s

  written_again : some_writes a (last_of_each xs) ≡ true
  unfolding a superseded
  written_again =
      ap (some_writes a) (sym (append-nil (last_of_each xs))) ∙ none_lost a xs [] ∙ ap (some_writes a) (append-nil xs)
      ∙ and_right (writes (number_at 2 4 x) x) (some_writes (number_at 2 4 x) xs) s

  dropped_loads : (k : Mark) → mark_of x ≡ some k → record_questions k l (length (joined xs ++ t)) x ≡ 0 →
      record_on k l x (λ j. image_after j (joined xs ++ t)) ≡ loaded d m b → image_after l (joined (last_of_each xs) ++ t) ≡ loaded d m b
  unfolding record_on with_record in_order is_word a
  dropped_loads ME q z e = absurd (false≢true (sym (not_a_word ME a x q refl) ∙ it_writes))
  dropped_loads ST q z e = absurd (false≢true (sym (not_a_word ST a x q refl) ∙ it_writes))
  dropped_loads WD q z e =
      let c = number_at 6 8 x in
      overwritten_same a l (with_word a c l) (last_of_each xs) t (its_word_may_wait l v a c (ordered WD l _ x z)) (last_of_each_whole stored xs all) written_again
      ∙ more (with_word a c l) (unfold with_word in v) e
  dropped_loads RN q z e = absurd (false≢true (sym (not_a_word RN a x q refl) ∙ it_writes))

pub last_of_each_loads : (l : Loading) (xs : List (List ℕ)) (t : List ℕ) (d : Delivery) (m : Machine) (b : ℕ) → l.rules ≡ stored → AllWhole stored xs →
    image_after l (joined xs ++ t) ≡ loaded d m b → image_after l (joined (last_of_each xs) ++ t) ≡ loaded d m b
unfolding last_of_each
last_of_each_loads l [] t d m b v w e = e
last_of_each_loads l (x ∷ xs) t d m b v w e =
    let p = passed l v x xs t d m b w.0 e in
    let more : (j : Loading) → j.rules ≡ stored → image_after j (joined xs ++ t) ≡ loaded d m b → image_after j (joined (last_of_each xs) ++ t) ≡ loaded d m b =
    λ j r f. last_of_each_loads j xs t d m b r w.1 f in
    cond_holds (λ ys. image_after l (joined ys ++ t) ≡ loaded d m b) (superseded x xs)
    (λ s. dropped_loads l v x xs t d m b w.1 more s w.0.mark w.0.is_marked p.0 p.1)
    (λ _.
    image_front l v x (last_of_each xs) t w.0
    ∙ accepted_before w.0.mark l _ _ x _ _ d m b p.0 p.1 (λ j r f. more j (r ∙ v) f) (none_before_none xs t w.1))
