-- Bytes cut into records, by any rules: the one at the front, and those after it. Assumes nothing.
use mathlib.Core.Path.{◌≡◌, refl, sym, ◌∙◌, ap, ap₂, subst}
use mathlib.Core.Bool.{Bool, true, false, cond}
use mathlib.Core.List.{List, [], ◌∷◌, ◌++◌, append_assoc, append-nil}
use mathlib.Core.Option.{Option, none, some}
use Prim.Native.Nat.{ℕ, zero, suc, ◌+◌, ◌-◌, ◌≤◌, ◌<◌}
use native.Mathlib.Omega.{arith}
use lib.Dec.{leb, eqb}
use lib.ListN.{length, take, drop, length-append, length-drop, take-append-drop}
use lib.Seq.{length-take-le, drop-append-add, drop_at, take_at}
use borrow.Author.Tests.{leb-true, leb-false, le-leb, eqb-false, eq-eqb, ne_eqb}
use Rattle.model.specs.Image.{Rules, Mark, mark_of, record_size}
use Rattle.model.specs.Convert.{size_by, front_size, records_from, records, joined, left_over}
use Rattle.model.proofs.BranchLaws.{cond_rel, cond_holds}
use Rattle.formats.proofs.ImageLaws.{record_has_a_mark, mark_of_front}

joined_append : (xs ys : List (List ℕ)) → joined (xs ++ ys) ≡ joined xs ++ joined ys
unfolding joined
joined_append [] ys = refl
joined_append (x ∷ xs) ys = ap (λ zs. x ++ zs) (joined_append xs ys) ∙ sym (append_assoc x (joined xs) (joined ys))

module _ (v : Rules) where
  size_within : (k : Option Mark) (n : ℕ) → size_by v k n ≤ n
  unfolding size_by
  size_within none n = omega arith
  size_within (some k) n = cond_holds (λ s. s ≤ n) (leb (record_size v k) n) (leb-true (record_size v k) n) (λ _. omega arith)

  pub front_within : (bs : List ℕ) → front_size v bs ≤ length bs
  unfolding front_size
  front_within bs = size_within (mark_of bs) (length bs)

  pub too_short : (k : Mark) (n : ℕ) → size_by v (some k) n ≡ 0 → n < record_size v k
  unfolding size_by
  too_short k n =
      cond_holds (λ s. s ≡ 0 → n < record_size v k) (leb (record_size v k) n) (λ _ z. absurd (let y = record_has_a_mark v k in omega arith))
      (λ f _. leb-false (record_size v k) n f)

  -- THE RECORDS LEFT suffice: what follows a record is shorter
  records_from_enough : (n p : ℕ) (bs : List ℕ) → length bs ≤ n → length bs ≤ p → records_from v n bs ≡ records_from v p bs
  unfolding records_from
  records_from_enough zero zero bs h g = refl
  records_from_enough zero (suc p) bs h g = rw (eq-eqb (front_size v bs) 0 (let y = front_within bs in omega arith)) refl
  records_from_enough (suc n) zero bs h g = rw (eq-eqb (front_size v bs) 0 (let y = front_within bs in omega arith)) refl
  records_from_enough (suc n) (suc p) bs h g =
      cond_rel ◌≡◌ {b = eqb (front_size v bs) 0} refl (λ _. refl)
      (λ e.
      ap (λ xs. take (front_size v bs) bs ∷ xs)
      (let y = eqb-false (front_size v bs) 0 e in let z = length-drop (front_size v bs) bs in let w = front_within bs in
      records_from_enough n p (drop (front_size v bs) bs) (some_less y z h) (some_less y z g)))
    where
      some_less : {s l r n : ℕ} → (s ≡ 0 → ⊥) → r ≡ l - s → l ≤ suc n → r ≤ n
      some_less y z h = omega arith

  module _ (bs : List ℕ) where
    pub no_record : front_size v bs ≡ 0 → records v bs ≡ []
    unfolding records records_from
    no_record e = by_fuel (length bs)
      where
        by_fuel : (n : ℕ) → records_from v n bs ≡ []
        by_fuel zero = refl
        by_fuel (suc n) = rw e refl

    all_left_over : front_size v bs ≡ 0 → left_over v bs ≡ bs
    unfolding left_over joined
    all_left_over e = rw (no_record e) refl

    pub one_record : 1 ≤ front_size v bs → records v bs ≡ take (front_size v bs) bs ∷ records v (drop (front_size v bs) bs)
    unfolding records records_from
    one_record h =
        records_from_enough (length bs) (suc (length bs)) bs (omega arith) (omega arith)
        ∙ rw (ne_eqb (front_size v bs) 0 (λ e. omega arith))
        (ap (λ xs. take (front_size v bs) bs ∷ xs)
        (let z = length-drop (front_size v bs) bs in
        records_from_enough (length bs) (length (drop (front_size v bs) bs)) (drop (front_size v bs) bs) (omega arith) (omega arith)))

  -- A WHOLE RECORD by itself
  pub record Whole (x : List ℕ) : Type 0 where
    pub mark : Mark
    pub is_marked : mark_of x ≡ some mark
    pub sized : length x ≡ record_size v mark

  abbrev pub AllWhole : List (List ℕ) → Type 0
  AllWhole [] = Unit {0}
  AllWhole (x ∷ xs) = Whole x × AllWhole xs

  module _ (x ys : List ℕ) (w : Whole x) where
    two_or_more : 2 ≤ length x
    two_or_more = let h = record_has_a_mark v w.mark in omega (arith, w.sized)

    whole_front : front_size v (x ++ ys) ≡ length x
    unfolding front_size size_by
    whole_front =
        let l = length-append x ys in
        rw (mark_of_front x ys two_or_more, w.is_marked, le-leb (record_size v w.mark) (length (x ++ ys)) (let s = w.sized in omega arith)) (sym w.sized)

    pub whole_record : records v (x ++ ys) ≡ x ∷ records v ys
    whole_record =
        let s = whole_front in
        one_record (x ++ ys) (let t = two_or_more in omega arith)
        ∙ ap₂ (λ one rest. one ∷ records v rest) (ap (λ n. take n (x ++ ys)) s ∙ take_at x ys (length x) refl) (ap (λ n. drop n (x ++ ys)) s ∙ drop_at x ys (length x) refl)

  pub joined_front : (xs : List (List ℕ)) (ys : List ℕ) → AllWhole xs → records v (joined xs ++ ys) ≡ xs ++ records v ys
  unfolding joined
  joined_front [] ys w = refl
  joined_front (x ∷ xs) ys w =
      ap (records v) (append_assoc x (joined xs) ys) ∙ whole_record x (joined xs ++ ys) w.0 ∙ ap (λ zs. x ∷ zs) (joined_front xs ys w.1)

  pub left_over_after : (xs : List (List ℕ)) (ys : List ℕ) → AllWhole xs → left_over v (joined xs ++ ys) ≡ left_over v ys
  unfolding left_over
  left_over_after xs ys w =
      ap (λ zs. drop (length (joined zs)) (joined xs ++ ys)) (joined_front xs ys w)
      ∙ ap (λ n. drop n (joined xs ++ ys)) (ap length (joined_append xs (records v ys)) ∙ length-append (joined xs) (joined (records v ys)))
      ∙ drop-append-add (joined xs) ys (length (joined (records v ys)))

  -- whole records and a part are cut as they were joined
  module _ (xs : List (List ℕ)) (t : List ℕ) (w : AllWhole xs) (z : front_size v t ≡ 0) where
    pub joined_records : records v (joined xs ++ t) ≡ xs
    joined_records = joined_front xs t w ∙ ap (λ ys. xs ++ ys) (no_record t z) ∙ append-nil xs

    pub joined_left_over : left_over v (joined xs ++ t) ≡ t
    joined_left_over = left_over_after xs t w ∙ all_left_over t z

  -- ANY BYTES are their records and what is left over
  pub record Cut (bs : List ℕ) : Type 0 where
    pub all_whole : AllWhole (records v bs)
    pub same : joined (records v bs) ++ left_over v bs ≡ bs
    pub none_after : front_size v (left_over v bs) ≡ 0

  size_marked : (k : Option Mark) (n : ℕ) → 1 ≤ size_by v k n → (m : Mark) × ((k ≡ some m) × (size_by v k n ≡ record_size v m))
  unfolding size_by
  size_marked none n h = absurd (omega arith)
  size_marked (some k) n h = (k, (refl, by_test (leb (record_size v k) n) h))
    where
      by_test : (b : Bool) → 1 ≤ cond b (record_size v k) 0 → cond b (record_size v k) 0 ≡ record_size v k
      by_test true g = refl
      by_test false g = absurd (omega arith)

  front_is_whole : (bs : List ℕ) → 1 ≤ front_size v bs → Whole (take (front_size v bs) bs)
  unfolding front_size
  front_is_whole bs h =
      let m = size_marked (mark_of bs) (length bs) h in
      let s = front_size v bs in
      let long = length-take-le s bs (front_within bs) in
      let two = record_has_a_mark v m.0 in
      record {
        mark = m.0;
        is_marked = sym (mark_of_front (take s bs) (drop s bs) (let e = m.1.1 in omega arith)) ∙ ap mark_of (take-append-drop s bs) ∙ m.1.0;
        sized = long ∙ m.1.1;
      }

  nothing_cut : (bs : List ℕ) → front_size v bs ≡ 0 → Cut bs
  unfolding joined
  nothing_cut bs e =
      let none : records v bs ≡ [] = no_record bs e in
      let over : left_over v bs ≡ bs = all_left_over bs e in
      record { all_whole = subst AllWhole (sym none) tt; same = rw none over; none_after = ap (front_size v) over ∙ e }

  one_cut : (bs : List ℕ) → 1 ≤ front_size v bs → Cut (drop (front_size v bs) bs) → Cut bs
  unfolding joined
  one_cut bs h c =
      let s = front_size v bs in
      let x = take s bs in
      let rest = drop s bs in
      let w = front_is_whole bs h in
      let over : left_over v bs ≡ left_over v rest =
      ap (left_over v) (sym (take-append-drop s bs) ∙ ap (λ zs. zs ++ rest) (sym (append-nil x))) ∙ left_over_after (x ∷ []) rest (w, tt) in
      record {
        all_whole = subst AllWhole (sym (one_record bs h)) (w, c.all_whole);
        same =
            ap₂ (λ xs zs. joined xs ++ zs) (one_record bs h) over ∙ append_assoc x (joined (records v rest)) (left_over v rest) ∙ ap (λ zs. x ++ zs) c.same
            ∙ take-append-drop s bs;
        none_after = ap (front_size v) over ∙ c.none_after;
      }

  pub cut : (bs : List ℕ) → Cut bs
  cut bs = by_length (length bs) bs (omega arith)
    where
      by_size : (bs : List ℕ) (s : ℕ) → front_size v bs ≡ s → (1 ≤ front_size v bs → Cut (drop (front_size v bs) bs)) → Cut bs
      by_size bs zero e c = nothing_cut bs e
      by_size bs (suc s) e c = one_cut bs (omega arith) (c (omega arith))

      by_length : (n : ℕ) (bs : List ℕ) → length bs ≤ n → Cut bs
      by_length zero bs h = nothing_cut bs (let y = front_within bs in omega arith)
      by_length (suc n) bs h =
          by_size bs (front_size v bs) refl (λ g. by_length n (drop (front_size v bs) bs) (let z = length-drop (front_size v bs) bs in omega arith))
