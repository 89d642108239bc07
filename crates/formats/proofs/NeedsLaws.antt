-- The rules that keep no word read an image as today's do, but for its words; and how many bytes an accepted one has. Assumes nothing.
use mathlib.Core.Path.{◌≡◌, refl, sym, ◌∙◌, ap, ap₂, subst}
use mathlib.Core.Bool.{◌&&◌, not, cond}
use mathlib.Core.List.{List, [], ◌∷◌, ◌++◌}
use mathlib.Core.Option.{Option, none, some}
use Prim.Native.Nat.{ℕ, zero, suc, ◌+◌, ◌-◌, ◌*◌, ◌/◌, ◌≤◌}
use native.Mathlib.Omega.{arith}
use lib.Dec.{leb, eqb, lit≤}
use lib.ListN.{length, take, drop, length-append, length-set}
use borrow.Author.Tests.{not-true}
use Rattle.model.specs.Registers.{Delivery, Machine, machine}
use Rattle.model.specs.Questions.{start_questions}
use Rattle.model.specs.Run.{unless_refused}
use Rattle.model.specs.Image.{today, sizing, Mark, ME, ST, WD, RN, mark_of, start_size, record_size, number_at, delivery_at, Loading, nothing_loaded, has, or_else, memory_of, zero_registers, machine_of, in_order, address_allowed, unless_written, address_new, record_questions, with_written, words_with, with_word, with_record, Image, refused_image, loaded, checked, record_on, whole_record_on, marked_on, bytes_on, image_from, image_after, image}
use Rattle.model.specs.Convert.{size_by, front_size, records_from, records, joined, left_over, is_word}
use Rattle.model.specs.Needs.{needs_of, word_count, needs_on, image_needs}
use Rattle.model.specs.Needed.{NeedsRefused, NeedsAccepted, NeedsByLength}
use Rattle.model.proofs.BranchLaws.{cond_rel, cond_holds, and_left, and_right}
use Rattle.model.proofs.QuestionLaws.{asked_by_size}
use Rattle.formats.proofs.CutLaws.{AllWhole, cut}
use Rattle.formats.proofs.FrontLaws.{part_refused, ordered, last_has_none, records_have_bytes, passed}

-- A LOADING WITHOUT WORDS, and one by today's rules that differs from it in these alone
record Alike (l j : Loading) : Type 0 where
  rules_first : l.rules ≡ sizing
  rules_second : j.rules ≡ today
  written_same : l.written ≡ j.written
  registers_same : l.registers ≡ j.registers
  delivery_same : l.delivery ≡ j.delivery
  has_same : has l.memory ≡ has j.memory
  length_same : length (memory_of l) ≡ length (memory_of j)

sizes_same : (k : Mark) → record_size sizing k ≡ record_size today k
unfolding record_size start_size
sizes_same ME = refl
sizes_same ST = refl
sizes_same WD = refl
sizes_same RN = refl

module _ (l j : Loading) (s : Alike l j) where
  its_sizes : (k : Mark) → record_size l.rules k ≡ record_size j.rules k
  its_sizes k = ap (λ v. record_size v k) s.rules_first ∙ sizes_same k ∙ sym (ap (λ v. record_size v k) s.rules_second)

  questions_same : (k : Mark) (n : ℕ) (x : List ℕ) → record_questions k l n x ≡ record_questions k j n x
  unfolding record_questions in_order address_allowed address_new unless_written
  questions_same ME n x = rw s.has_same refl
  questions_same ST n x = rw (s.has_same, s.registers_same) refl
  questions_same WD n x = rw (s.has_same, s.length_same, s.rules_first, s.rules_second, s.written_same) refl
  questions_same RN n x = rw (s.has_same, s.registers_same) refl

  with_memory : (x : List ℕ) → Alike (with_record ME l x) (with_record ME j x)
  unfolding with_record memory_of or_else has
  with_memory x =
      record {
        rules_first = s.rules_first;
        rules_second = s.rules_second;
        written_same = s.written_same;
        registers_same = s.registers_same;
        delivery_same = s.delivery_same;
        has_same = refl;
        length_same = refl;
      }

  with_start : (x : List ℕ) → Alike (with_record ST l x) (with_record ST j x)
  unfolding with_record memory_of delivery_at
  with_start x =
      record {
        rules_first = s.rules_first;
        rules_second = s.rules_second;
        written_same = s.written_same;
        registers_same = refl;
        delivery_same = rw (s.rules_first, s.rules_second) refl;
        has_same = s.has_same;
        length_same = s.length_same;
      }

  with_its_word : (x : List ℕ) → Alike (with_record WD l x) (with_record WD j x)
  unfolding with_record with_word with_written words_with has memory_of or_else
  with_its_word x =
      record {
        rules_first = s.rules_first;
        rules_second = s.rules_second;
        written_same = rw (s.rules_first, s.rules_second, s.written_same) refl;
        registers_same = s.registers_same;
        delivery_same = s.delivery_same;
        has_same = refl;
        length_same =
            rw (s.rules_first, s.rules_second) (s.length_same ∙ sym (length-set (memory_of j) (number_at 2 4 x) (number_at 6 8 x)));
      }

  asked_same : start_questions l.delivery (machine_of l) ≡ start_questions j.delivery (machine_of j)
  unfolding machine_of
  asked_same =
      ap₂ (λ d r. start_questions d (machine (or_else zero_registers r) (memory_of l))) s.delivery_same s.registers_same
      ∙ asked_by_size j.delivery (or_else zero_registers j.registers) (memory_of l) (memory_of j) s.length_same

-- SO ARE THE NEEDS read off them
module _ (w : ℕ) where
  abbrev NeedsAlike : Image → Image → Type 0
  NeedsAlike x y = needs_on x w ≡ needs_on y w

  unless_same : (n p : ℕ) (x y : Image) → n ≡ p → NeedsAlike x y → NeedsAlike (unless_refused n refused_image x) (unless_refused p refused_image y)
  unfolding unless_refused
  unless_same n p x y e h = subst (λ q. NeedsAlike (unless_refused n refused_image x) (unless_refused q refused_image y)) e (by_number n)
    where
      by_number : (c : ℕ) → NeedsAlike (unless_refused c refused_image x) (unless_refused c refused_image y)
      by_number zero = h
      by_number (suc c) = refl

  module _ (l j : Loading) (s : Alike l j) where
    checked_same : (b : ℕ) → NeedsAlike (checked l.delivery (machine_of l) b) (checked j.delivery (machine_of j) b)
    unfolding checked needs_on machine_of machine
    checked_same b = unless_same _ _ _ _ (asked_same l j s) (ap (λ n. needs_of n w b) s.length_same)

    record_same : (k : Mark) (x : List ℕ) (f g : Loading → Image) → ((i o : Loading) → Alike i o → NeedsAlike (f i) (g o)) →
        NeedsAlike (record_on k l x f) (record_on k j x g)
    unfolding record_on
    record_same ME x f g h = h _ _ (with_memory l j s x)
    record_same ST x f g h = h _ _ (with_start l j s x)
    record_same WD x f g h = h _ _ (with_its_word l j s x)
    record_same RN x f g h = checked_same (number_at 2 4 x)

    whole_alike : (k : Mark) (n p : ℕ) (x : List ℕ) (f g : Loading → Image) → n ≡ p → ((i o : Loading) → Alike i o → NeedsAlike (f i) (g o)) →
        NeedsAlike (whole_record_on k l n x f) (whole_record_on k j p x g)
    unfolding whole_record_on
    whole_alike k n p x f g e h =
        unless_same _ _ _ _ (questions_same l j s k n x ∙ ap (λ c. record_questions k j c x) e) (record_same k x f g h)

    marked_same : (k : Option Mark) (bs : List ℕ) (f g : Loading → List ℕ → Image) → ((i o : Loading) (rest : List ℕ) → Alike i o → NeedsAlike (f i rest) (g o rest)) →
        NeedsAlike (marked_on k l bs f) (marked_on k j bs g)
    unfolding marked_on
    marked_same none bs f g h = refl
    marked_same (some k) bs f g h =
        rw (its_sizes l j s k)
        (cond_rel NeedsAlike {b = leb (record_size j.rules k) (length bs)} refl (λ _. whole_alike k _ _ bs _ _ refl (λ i o a. h i o _ a)) (λ _. refl))

    bytes_same : (bs : List ℕ) (f g : Loading → List ℕ → Image) → ((i o : Loading) (rest : List ℕ) → Alike i o → NeedsAlike (f i rest) (g o rest)) →
        NeedsAlike (bytes_on l bs f) (bytes_on j bs g)
    unfolding bytes_on
    bytes_same [] f g h = refl
    bytes_same (b ∷ bs) f g h = marked_same (mark_of (b ∷ bs)) (b ∷ bs) f g h

  from_same : (n : ℕ) (l j : Loading) (bs : List ℕ) → Alike l j → NeedsAlike (image_from n l bs) (image_from n j bs)
  unfolding image_from
  from_same zero l j bs s = refl
  from_same (suc n) l j bs s = bytes_same l j s bs _ _ (λ i o rest a. from_same n i o rest a)

  needs_as_loading : (bs : List ℕ) → NeedsAlike (image_after (nothing_loaded sizing) bs) (image bs)
  unfolding image image_after memory_of
  needs_as_loading bs =
      from_same (suc (length bs)) (nothing_loaded sizing) (nothing_loaded today) bs
      (record { rules_first = refl; rules_second = refl; written_same = refl; registers_same = refl; delivery_same = refl; has_same = refl; length_same = refl })

-- THE RECORDS are the same by either rules
front_same : (bs : List ℕ) → front_size sizing bs ≡ front_size today bs
unfolding front_size size_by
front_same bs = by_mark (mark_of bs)
  where
    by_mark : (k : Option Mark) → size_by sizing k (length bs) ≡ size_by today k (length bs)
    by_mark none = refl
    by_mark (some k) = rw (sizes_same k) refl

records_same : (bs : List ℕ) → records sizing bs ≡ records today bs
unfolding records records_from
records_same bs = by_fuel (length bs) bs
  where
    by_fuel : (n : ℕ) (xs : List ℕ) → records_from sizing n xs ≡ records_from today n xs
    by_fuel zero xs = refl
    by_fuel (suc n) xs =
        rw (front_same xs)
        (cond_rel ◌≡◌ {b = eqb (front_size today xs) 0} refl (λ _. refl) (λ _. ap (λ ys. take (front_size today xs) xs ∷ ys) (by_fuel n (drop (front_size today xs) xs))))

-- A REFUSAL'S NUMBER is never 0
abbrev Numbered : Image → Type 0
Numbered (refused_image n) = 1 ≤ n
Numbered (loaded v m b) = Unit {0}

unless_numbered : (n : ℕ) (x : Image) → Numbered x → Numbered (unless_refused n refused_image x)
unfolding unless_refused
unless_numbered zero x h = h
unless_numbered (suc n) x h = omega arith

record_numbered : (k : Mark) (l : Loading) (bs : List ℕ) (f : Loading → Image) → ((j : Loading) → Numbered (f j)) → Numbered (record_on k l bs f)
unfolding record_on checked
record_numbered ME l bs f h = h _
record_numbered ST l bs f h = h _
record_numbered WD l bs f h = h _
record_numbered RN l bs f h = unless_numbered (start_questions l.delivery (machine_of l)) _ tt

marked_numbered : (k : Option Mark) (l : Loading) (bs : List ℕ) (f : Loading → List ℕ → Image) → ((j : Loading) (rest : List ℕ) → Numbered (f j rest)) →
    Numbered (marked_on k l bs f)
unfolding marked_on whole_record_on
marked_numbered none l bs f h = lit≤ tt
marked_numbered (some k) l bs f h =
    cond_holds Numbered (leb (record_size l.rules k) (length bs))
    (λ _. unless_numbered (record_questions k l _ bs) _ (record_numbered k l bs _ (λ j. h j _))) (λ _. lit≤ tt)

image_numbered : (n : ℕ) (l : Loading) (bs : List ℕ) → Numbered (image_from n l bs)
unfolding image_from bytes_on
image_numbered zero l bs = lit≤ tt
image_numbered (suc n) l [] = lit≤ tt
image_numbered (suc n) l (b ∷ bs) = marked_numbered (mark_of (b ∷ bs)) l (b ∷ bs) _ (λ j rest. image_numbered n j rest)

pub needs_are_refused : NeedsRefused
unfolding image_needs needs_on image image_after
needs_are_refused bs n e =
    (needs_as_loading (word_count (records sizing bs)) bs ∙ ap (λ i. needs_on i (word_count (records sizing bs))) e, subst Numbered e (image_numbered (suc (length bs)) (nothing_loaded today) bs))

pub needs_are_accepted : NeedsAccepted
unfolding image_needs needs_on
needs_are_accepted bs v m b e =
    needs_as_loading (word_count (records sizing bs)) bs ∙ ap₂ needs_on e (ap word_count (records_same bs))

-- AN ACCEPTED IMAGE'S BYTES: ME, ST and RN, and 14 for each WD. Those yet to come, but for the WDs
abbrev bytes_due : Loading → ℕ
bytes_due l = cond (has l.memory) 0 6 + cond (has l.registers) 0 66 + 6

module _ (l : Loading) (r : l.rules ≡ sizing) (x : List ℕ) (xs : List (List ℕ)) (t : List ℕ) (d : Delivery) (m : Machine) (b : ℕ) (all : AllWhole sizing xs)
    (more : (j : Loading) → j.rules ≡ sizing → image_after j (joined xs ++ t) ≡ loaded d m b → length (joined xs ++ t) ≡ bytes_due j + 14 * word_count xs) where
  one_more_record : (k : Mark) → mark_of x ≡ some k → length x ≡ record_size sizing k → record_questions k l (length (joined xs ++ t)) x ≡ 0 →
      record_on k l x (λ j. image_after j (joined xs ++ t)) ≡ loaded d m b → length x + length (joined xs ++ t) ≡ bytes_due l + 14 * word_count (x ∷ xs)
  unfolding record_on with_record with_word in_order word_count is_word has record_size start_size
  one_more_record ME q z a e =
      rw (q, not-true (has l.memory) (ordered ME l _ x a)) (let h = more (with_record ME l x) r e in omega arith)
  one_more_record ST q z a e =
      let o = ordered ST l _ x a in
      rw (q, and_left (has l.memory) (not (has l.registers)) o, not-true (has l.registers) (and_right (has l.memory) (not (has l.registers)) o))
      (let h = rw (and_left (has l.memory) (not (has l.registers)) o) at (more (with_record ST l x) r e) in omega arith)
  one_more_record WD q z a e = rw (q, ordered WD l _ x a) (let h = more (with_record WD l x) r e in omega arith)
  one_more_record RN q z a e =
      let o = ordered RN l _ x a in
      let g = and_right (has l.memory) (has l.registers && eqb (length (joined xs ++ t)) 0) o in
      rw (q, and_left (has l.memory) (has l.registers && eqb (length (joined xs ++ t)) 0) o, and_left (has l.registers) (eqb (length (joined xs ++ t)) 0) g)
      (let h = last_has_none l _ o in let c = none_follow xs all h in omega arith)
    where
      none_follow : (ys : List (List ℕ)) → AllWhole sizing ys → length (joined ys ++ t) ≡ 0 → word_count ys ≡ 0
      none_follow [] w e = refl
      none_follow (y ∷ ys) w e = absurd (records_have_bytes y ys t w.0 e)

abbrev IsRefused : Image → Type 0
IsRefused (refused_image n) = Unit {0}
IsRefused (loaded v m b) = ⊥

accepted_bytes_after : (l : Loading) (xs : List (List ℕ)) (t : List ℕ) (d : Delivery) (m : Machine) (b : ℕ) → l.rules ≡ sizing → AllWhole sizing xs → front_size sizing t ≡ 0 →
    image_after l (joined xs ++ t) ≡ loaded d m b → length (joined xs ++ t) ≡ bytes_due l + 14 * word_count xs
unfolding joined
accepted_bytes_after l [] t d m b r w z e = absurd (subst IsRefused (sym (part_refused l t (rw r z)) ∙ e) tt)
accepted_bytes_after l (x ∷ xs) t d m b r w z e =
    let p = passed l r x xs t d m b w.0 e in
    let f = one_more_record l r x xs t d m b w.1 (λ j s f. accepted_bytes_after j xs t d m b s w.1 z f) w.0.mark w.0.is_marked w.0.sized p.0 p.1 in
    let h = length-append (x ++ joined xs) t in
    let g = length-append x (joined xs) in
    let i = length-append (joined xs) t in
    omega arith

accepted_bytes : (bs : List ℕ) (d : Delivery) (m : Machine) (b : ℕ) → image_after (nothing_loaded sizing) bs ≡ loaded d m b →
    length bs ≡ 78 + 14 * word_count (records sizing bs)
unfolding has
accepted_bytes bs d m b e =
    let c = cut sizing bs in
    ap length (sym c.same) ∙ accepted_bytes_after (nothing_loaded sizing) (records sizing bs) (left_over sizing bs) d m b refl c.all_whole c.none_after
    (ap (image_after (nothing_loaded sizing)) c.same ∙ e)

pub needs_by_length : NeedsByLength
unfolding image_needs needs_on
needs_by_length bs = by_image (image_after (nothing_loaded sizing) bs) refl
  where
    by_image : (i : Image) → image_after (nothing_loaded sizing) bs ≡ i → needs_on i (word_count (records sizing bs)) ≡ needs_on i ((length bs - 78) / 14)
    by_image (refused_image n) e = refl
    by_image (loaded v m b) e =
        ap (λ w. needs_of (length m.memory) w b) (let h = accepted_bytes bs v m b e in let q : word_count (records sizing bs) ≡ (length bs - 78) / 14 = omega arith in q)
