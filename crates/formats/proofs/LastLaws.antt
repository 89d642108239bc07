-- Of the records that write a word the last: nothing is lost, nothing is left twice, and it may be done bit by bit. Assumes nothing.
use mathlib.Core.Path.{◌≡◌, refl, sym, ◌∙◌, ap, ap₂, subst}
use mathlib.Core.Bool.{Bool, true, false, ◌&&◌, ◌||◌, cond}
use mathlib.Core.Option.{some}
use mathlib.Core.List.{List, [], ◌∷◌, ◌++◌, map, append-nil, append_assoc}
use Prim.Native.Nat.{ℕ, ◌<◌}
use lib.Dec.{ltb, eqb}
use borrow.Author.Tests.{eqb-true, lt-ltb, eq-eqb}
use Rattle.model.specs.Image.{Rules, stored, Mark, WD, mark_of, number_at}
use Rattle.model.specs.Convert.{records, joined, left_over, is_word, writes, some_writes, superseded, last_of_each, kept_of, renewed, compacted}
use Rattle.model.specs.Converted.{Sublist, none_left, kept, dropped, OneAnAddress, with_todays_start}
use Rattle.model.proofs.BranchLaws.{cond_holds, and_left, and_right, or_left}
use Rattle.formats.proofs.CutLaws.{AllWhole, joined_front, left_over_after, joined_records, joined_left_over, cut}

or_known : (a b : Bool) → (a ≡ true → b ≡ true) → (a || b) ≡ b
or_known true b f = sym (f refl)
or_known false b f = refl

some_writes_append : (a : ℕ) (xs ys : List (List ℕ)) → some_writes a (xs ++ ys) ≡ (some_writes a xs || some_writes a ys)
unfolding some_writes
some_writes_append a [] ys = refl
some_writes_append a (x ∷ xs) ys = ap (λ t. writes a x || t) (some_writes_append a xs ys) ∙ or_assoc (writes a x) (some_writes a xs) (some_writes a ys)
  where
    or_assoc : (a b c : Bool) → (a || (b || c)) ≡ ((a || b) || c)
    or_assoc true b c = refl
    or_assoc false b c = refl

-- WHO WRITES: a WD alone
pub not_a_word : (k : Mark) (a : ℕ) (x : List ℕ) → mark_of x ≡ some k → is_word (some k) ≡ false → writes a x ≡ false
unfolding writes
not_a_word k a x q e = rw (q, e) refl

pub word_writes : (a : ℕ) (x : List ℕ) → mark_of x ≡ some WD → number_at 2 4 x ≡ a → a < 8192 → writes a x ≡ true
unfolding writes is_word
word_writes a x q e h = rw (q, eq-eqb _ _ e, lt-ltb _ _ h) refl

pub writes_its_own : (a : ℕ) (x : List ℕ) → writes a x ≡ true → number_at 2 4 x ≡ a
unfolding writes
writes_its_own a x e =
    eqb-true (number_at 2 4 x) a (and_left (eqb (number_at 2 4 x) a) (ltb a 8192) (and_right (is_word (mark_of x)) (eqb (number_at 2 4 x) a && ltb a 8192) e))

module _ (x : List ℕ) (xs : List (List ℕ)) (e : superseded x xs ≡ true) where
  -- the word that a superseded record writes is written later
  written_later : (a : ℕ) → writes a x ≡ true → some_writes a xs ≡ true
  unfolding superseded
  written_later a w =
      let b = number_at 2 4 x in
      subst (λ c. some_writes c xs ≡ true) (writes_its_own a x w) (and_right (writes b x) (some_writes b xs) e)

  pub superseded_still : (zs : List (List ℕ)) → superseded x (xs ++ zs) ≡ true
  unfolding superseded
  superseded_still zs =
      let b = number_at 2 4 x in
      rw (and_left (writes b x) (some_writes b xs) e, some_writes_append b xs zs, and_right (writes b x) (some_writes b xs) e) refl

-- each word is written as before, whatever comes after
pub none_lost : (a : ℕ) (xs zs : List (List ℕ)) → some_writes a (last_of_each xs ++ zs) ≡ some_writes a (xs ++ zs)
unfolding last_of_each some_writes
none_lost a [] zs = refl
none_lost a (x ∷ xs) zs =
    let more = some_writes a (xs ++ zs) in
    cond_holds (λ ys. some_writes a (ys ++ zs) ≡ (writes a x || more)) (superseded x xs)
    (λ e.
    none_lost a xs zs
    ∙ sym (or_known (writes a x) more (λ w. some_writes_append a xs zs ∙ or_left (some_writes a xs) (some_writes a zs) (written_later x xs e a w))))
    (λ _. ap (λ t. writes a x || t) (none_lost a xs zs))

superseded_same : (x : List ℕ) (xs zs : List (List ℕ)) → superseded x (last_of_each xs ++ zs) ≡ superseded x (xs ++ zs)
unfolding superseded
superseded_same x xs zs = ap (λ t. writes (number_at 2 4 x) x && t) (none_lost (number_at 2 4 x) xs zs)

-- what is dropped early is dropped in the end
pub last_of_each_early : (xs zs : List (List ℕ)) → last_of_each (last_of_each xs ++ zs) ≡ last_of_each (xs ++ zs)
unfolding last_of_each
last_of_each_early [] zs = refl
last_of_each_early (x ∷ xs) zs =
    cond_holds (λ ys. last_of_each (ys ++ zs) ≡ cond (superseded x (xs ++ zs)) (last_of_each (xs ++ zs)) (x ∷ last_of_each (xs ++ zs))) (superseded x xs)
    (λ e. rw (superseded_still x xs e zs) (last_of_each_early xs zs))
    (λ _. ap₂ (λ t ys. cond t ys (x ∷ ys)) (superseded_same x xs zs) (last_of_each_early xs zs))

pub last_of_each_sublist : (xs : List (List ℕ)) → Sublist (last_of_each xs) xs
unfolding last_of_each
last_of_each_sublist [] = none_left
last_of_each_sublist (x ∷ xs) =
    cond_holds (λ ys. Sublist ys (x ∷ xs)) (superseded x xs) (λ _. dropped x (last_of_each_sublist xs)) (λ _. kept x (last_of_each_sublist xs))

pub last_of_each_once : (xs : List (List ℕ)) → OneAnAddress (last_of_each xs)
unfolding last_of_each OneAnAddress
last_of_each_once [] = tt
last_of_each_once (x ∷ xs) =
    cond_holds OneAnAddress (superseded x xs) (λ _. last_of_each_once xs)
    (λ e.
    (ap (superseded x) (sym (append-nil (last_of_each xs))) ∙ superseded_same x xs [] ∙ ap (superseded x) (append-nil xs) ∙ e, last_of_each_once xs))

pub last_of_each_whole : (v : Rules) (xs : List (List ℕ)) → AllWhole v xs → AllWhole v (last_of_each xs)
unfolding last_of_each
last_of_each_whole v [] w = tt
last_of_each_whole v (x ∷ xs) w =
    cond_holds (AllWhole v) (superseded x xs) (λ _. last_of_each_whole v xs w.1) (λ _. (w.0, last_of_each_whole v xs w.1))

-- BYTES: records in front, and whatever comes after them
kept_after : (xs : List (List ℕ)) (bs : List ℕ) → AllWhole stored xs →
    kept_of (joined xs ++ bs) ≡ joined (last_of_each (xs ++ records stored bs)) ++ left_over stored bs
unfolding kept_of
kept_after xs bs w = ap₂ (λ ys zs. joined (last_of_each ys) ++ zs) (joined_front stored xs bs w) (left_over_after stored xs bs w)

module _ (bs : List ℕ) where
  kept_whole : AllWhole stored (last_of_each (records stored bs))
  kept_whole = last_of_each_whole stored (records stored bs) (cut stored bs).all_whole

  pub kept_records : records stored (kept_of bs) ≡ last_of_each (records stored bs)
  unfolding kept_of
  kept_records = joined_records stored (last_of_each (records stored bs)) (left_over stored bs) kept_whole (cut stored bs).none_after

  pub kept_left_over : left_over stored (kept_of bs) ≡ left_over stored bs
  unfolding kept_of
  kept_left_over = joined_left_over stored (last_of_each (records stored bs)) (left_over stored bs) kept_whole (cut stored bs).none_after

  -- the five bytes may be added to the ST that was kept
  pub compacted_in_two : compacted bs ≡ with_todays_start (kept_of bs)
  unfolding compacted with_todays_start
  compacted_in_two = sym (ap₂ (λ xs zs. joined (map renewed xs) ++ zs) kept_records kept_left_over)

-- bytes may be compacted before the rest has come
module _ (bs rest : List ℕ) where
  pub kept_early : kept_of (kept_of bs ++ rest) ≡ kept_of (bs ++ rest)
  unfolding kept_of
  kept_early =
      let c = cut stored bs in
      let xs = records stored bs in
      let after = left_over stored bs ++ rest in
      ap kept_of (append_assoc (joined (last_of_each xs)) (left_over stored bs) rest)
      ∙ kept_after (last_of_each xs) after (kept_whole bs)
      ∙ ap (λ ys. joined ys ++ left_over stored after) (last_of_each_early xs (records stored after))
      ∙ sym (kept_after xs after c.all_whole)
      ∙ ap kept_of (sym (append_assoc (joined xs) (left_over stored bs) rest) ∙ ap (λ zs. zs ++ rest) c.same)

  pub compacted_early : compacted (kept_of bs ++ rest) ≡ compacted (bs ++ rest)
  compacted_early = compacted_in_two (kept_of bs ++ rest) ∙ ap with_todays_start kept_early ∙ sym (compacted_in_two (bs ++ rest))
