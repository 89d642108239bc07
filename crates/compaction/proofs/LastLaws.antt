-- Where the last record of each word stands: the walk that notes it, and what it tells of a record. Assumes nothing.
use mathlib.Core.Path.{◌≡◌, refl, sym, ◌∙◌, ap, ap₂}
use mathlib.Core.Bool.{Bool, true, false, cond, ◌&&◌, ◌||◌, not, false≢true}
use mathlib.Core.List.{List, [], ◌∷◌}
use mathlib.Core.Logic.{◌⊎◌, inl, inr, ⊎_elim}
use Prim.Native.Nat.{ℕ, ◌+◌, ◌-◌, ◌^◌, ◌≤◌, ◌<◌}
use native.Mathlib.Omega.{arith}
use lib.Dec.{ltb, eqb}
use lib.ListN.{length, take, drop, set, get_or, length-set, length-drop}
use lib.Seq.{get_or-set_same, get_or-set_other, drop-drop, length-take-le, take_all}
use borrow.Author.Tests.{ltb-true, eqb-true, eq-eqb, ne_eqb}
use mir.Syntax.{w64}
use mir.Val.{Fits}
use mir.Facts.{Fits-le}
use Rattle.model.specs.Image.{stored, mark_of, number_at}
use Rattle.model.specs.Convert.{front_size, records, is_word, writes, some_writes, superseded}
use Rattle.model.proofs.BranchLaws.{cond_holds, and_left, and_right}
use Rattle.formats.proofs.CutLaws.{front_within, no_record, one_record}
use Rattle.compaction.specs.declared.front.FrontRecord.{FrontRecord}
use Rattle.std.specs.Prelude.{Option, Some, None}
use Rattle.compaction.specs.Front.{written_word, AtFront}
use Rattle.compaction.specs.Last.{noted, last_places, last_here}

-- THE WORD that a record writes
by_test : (b : Bool) → (b ≡ true) ⊎ (b ≡ false)
by_test true = inl refl
by_test false = inr refl

module _ (a : ℕ) (x : List ℕ) where
  addressed : writes a x ≡ true → (eqb (number_at 2 4 x) a && ltb a 8192) ≡ true
  unfolding writes
  addressed h = and_right (is_word (mark_of x)) (eqb (number_at 2 4 x) a && ltb a 8192) h

  writes_small : writes a x ≡ true → a < 8192
  writes_small h = ltb-true a 8192 (and_right (eqb (number_at 2 4 x) a) (ltb a 8192) (addressed h))

  writes_address : writes a x ≡ true → number_at 2 4 x ≡ a
  writes_address h = eqb-true (number_at 2 4 x) a (and_left (eqb (number_at 2 4 x) a) (ltb a 8192) (addressed h))

  writes_word : writes a x ≡ true → written_word x ≡ Some a
  unfolding written_word
  writes_word h = let e = writes_address h in ap (λ b. cond b (Some (number_at 2 4 x)) None) (ap (λ k. writes k x) e ∙ h) ∙ ap Some e

  writes_other : writes a x ≡ false → written_word x ≡ Some a → ⊥
  unfolding written_word
  writes_other h =
      cond_holds (λ w. w ≡ Some a → ⊥) (writes (number_at 2 4 x) x)
      (λ t e. let q : number_at 2 4 x ≡ a = cc in false≢true (sym h ∙ ap (λ k. writes k x) (sym q) ∙ t)) (λ _ e. (cc))

no_word : (x : List ℕ) → writes (number_at 2 4 x) x ≡ false → written_word x ≡ None
unfolding written_word
no_word x h = ap (λ b. cond b (Some (number_at 2 4 x)) None) h

-- THE PLACES once a record is noted
pub length_noted : (w : Option ℕ) (at : ℕ) (t : List ℕ) → length (noted w at t) ≡ length t
length_noted None at t = refl
length_noted (Some a) at t = length-set t a at

noted_other : (w : Option ℕ) (a at : ℕ) (t : List ℕ) → (w ≡ Some a → ⊥) → get_or (noted w at t) a 0 ≡ get_or t a 0
noted_other None a at t d = refl
noted_other (Some b) a at t d = get_or-set_other t b a at 0 (λ e. d (ap Some (sym e)))

-- THE PLACE OF A WORD after some records: as before where none of them writes it, and among theirs where one does
module _ (a : ℕ) (small : a < 8192) where
  place_kept : (at : ℕ) (xs : List (List ℕ)) (t : List ℕ) → some_writes a xs ≡ false → get_or (last_places at xs t) a 0 ≡ get_or t a 0
  unfolding last_places some_writes
  place_kept at [] t h = refl
  place_kept at (x ∷ xs) t h =
      place_kept (at + length x) xs _ (or_right_false (writes a x) _ h)
      ∙ noted_other (written_word x) a at t (writes_other a x (or_left_false (writes a x) _ h))
    where
      or_left_false : (b c : Bool) → (b || c) ≡ false → b ≡ false
      or_left_false true c h = h
      or_left_false false c h = refl

      or_right_false : (b c : Bool) → (b || c) ≡ false → c ≡ false
      or_right_false true c h = absurd (false≢true (sym h))
      or_right_false false c h = h

  place_after : (at : ℕ) (xs : List (List ℕ)) (t : List ℕ) → length t ≡ 8192 → some_writes a xs ≡ true → at ≤ get_or (last_places at xs t) a 0
  unfolding last_places some_writes
  place_after at [] t l h = absurd (false≢true h)
  place_after at (x ∷ xs) t l h =
      ⊎_elim (λ w. let y = place_after (at + length x) xs (noted (written_word x) at t) (length_noted (written_word x) at t ∙ l) w in omega arith)
      (λ w.
      let e : written_word x ≡ Some a = writes_word a x (or_left_true (writes a x) (some_writes a xs) w h) in
      let y : get_or (last_places (at + length x) xs (noted (written_word x) at t)) a 0 ≡ at =
      place_kept (at + length x) xs _ w ∙ ap (λ k. get_or (noted k at t) a 0) e ∙ get_or-set_same t a at 0 (omega arith)
      in
      omega arith)
      (by_test (some_writes a xs))
    where
      or_left_true : (b c : Bool) → c ≡ false → (b || c) ≡ true → b ≡ true
      or_left_true true c w h = refl
      or_left_true false c w h = absurd (false≢true (sym w ∙ h))

-- WHAT THE PLACES TELL of the first of some records
module _ (at : ℕ) (x : List ℕ) (xs : List (List ℕ)) (t : List ℕ) (sized : length t ≡ 8192) (some_bytes : 1 ≤ length x) where
  place_told : (a : ℕ) → a < 8192 → some_writes a xs ≡ not (eqb (get_or (last_places (at + length x) xs (set t a at)) a 0) at)
  place_told a small =
      ⊎_elim
      (λ w.
      let y = place_after a small (at + length x) xs (set t a at) (length-set t a at ∙ sized) w in
      w ∙ sym (ap not (ne_eqb (get_or (last_places (at + length x) xs (set t a at)) a 0) at (λ q. omega arith))))
      (λ w.
      w
      ∙ sym (ap not (eq-eqb (get_or (last_places (at + length x) xs (set t a at)) a 0) at (place_kept a small (at + length x) xs (set t a at) w ∙ get_or-set_same t a at 0 (omega arith)))))
      (by_test (some_writes a xs))

  pub superseded_told : superseded x xs ≡ not (last_here (written_word x) (last_places at (x ∷ xs) t) at)
  unfolding superseded last_places
  superseded_told =
      ⊎_elim
      (λ h.
      ap (λ b. b && some_writes (number_at 2 4 x) xs) h ∙ place_told (number_at 2 4 x) (writes_small (number_at 2 4 x) x h)
      ∙ sym (ap (λ w. not (last_here w (last_places (at + length x) xs (noted w at t)) at)) (writes_word (number_at 2 4 x) x h)))
      (λ h.
      ap (λ b. b && some_writes (number_at 2 4 x) xs) h ∙ sym (ap (λ w. not (last_here w (last_places (at + length x) xs (noted w at t)) at)) (no_word x h)))
      (by_test (writes (number_at 2 4 x) x))

-- THE RECORD AT THE FRONT
pub front_none : (bs : List ℕ) → front_size stored bs ≡ 0 → records stored bs ≡ []
front_none bs e = no_record stored bs e

module _ (bs : List ℕ) (r : FrontRecord) (f : AtFront bs r) where
  pub front_in : r.size ≤ length bs
  front_in = let y = front_within stored bs in let z = f.size_is in omega arith

  pub front_one : records stored bs ≡ take r.size bs ∷ records stored (drop r.size bs)
  front_one = let y = f.has_bytes in rw f.size_is (one_record stored bs (let z = f.size_is in omega arith))

  pub front_length : length (take r.size bs) ≡ r.size
  front_length = length-take-le r.size bs front_in

-- THE WALK: what the records from `at` on will note, on what is noted so far, is what all note
pub record NotedSoFar (bs places : List ℕ) (at : ℕ) (places_now : List ℕ) : Type 0 where
  pub in_bytes : at ≤ length bs
  pub same : last_places at (records stored (drop at bs)) places_now ≡ last_places 0 (records stored bs) places

pub none_noted : (bs t : List ℕ) → NotedSoFar bs t 0 t
none_noted bs t = record { in_bytes = omega arith; same = refl }

-- the bytes from `at` on, as a part of a slice
pub from_is_drop : (at : ℕ) (bs : List ℕ) → take (length bs - at) (drop at bs) ≡ drop at bs
from_is_drop at bs = take_all (length bs - at) (drop at bs) (let z = length-drop at bs in omega arith)

module _ {bs places : List ℕ} {at : ℕ} {t : List ℕ} (i : NotedSoFar bs places at t) where
  pub all_noted : front_size stored (take (length bs - at) (drop at bs)) ≡ 0 → t ≡ last_places 0 (records stored bs) places
  unfolding last_places
  all_noted e = ap (λ xs. last_places at xs t) (sym (front_none (drop at bs) (rw (from_is_drop at bs) at e))) ∙ i.same

  module _ {r : FrontRecord} (g : AtFront (take (length bs - at) (drop at bs)) r) where
    f : AtFront (drop at bs) r
    f = rw (from_is_drop at bs) at g

    next_in_bytes : at + r.size ≤ length bs
    next_in_bytes = let y = front_in (drop at bs) r f in let z = length-drop at bs in let h = i.in_bytes in omega arith

    pub next_fits : length bs < 2 ^ 64 → Fits w64 (at + r.size)
    next_fits l = Fits-le next_in_bytes (record { fits = l })

    pub next_less : length bs - (at + r.size) < length bs - at
    next_less = let y = next_in_bytes in let h = f.has_bytes in omega arith

    one_noted : NotedSoFar bs places (at + r.size) (noted r.word at t)
    unfolding last_places
    one_noted =
        record {
          in_bytes = next_in_bytes;
          same =
              ap₂ (λ xs w. last_places (at + r.size) (records stored xs) (noted w at t)) (sym (drop-drop r.size at bs)) f.word_is
              ∙ ap (λ n. last_places (at + n) (records stored (drop r.size (drop at bs))) (noted (written_word (take r.size (drop at bs))) at t)) (sym (front_length (drop at bs) r f))
              ∙ ap (λ xs. last_places at xs t) (sym (front_one (drop at bs) r f))
              ∙ i.same;
        }

    pub word_noted : (a : ℕ) → r.word ≡ Some a → NotedSoFar bs places (at + r.size) (set t a at)
    word_noted a e = rw e at one_noted

    pub none_written : r.word ≡ None → NotedSoFar bs places (at + r.size) t
    none_written e = rw e at one_noted

    pub word_below : (a : ℕ) → r.word ≡ Some a → a < 8192
    word_below a e = rw e at f.word_within

pub ruleset notes = (none_noted, all_noted, next_fits, next_less, word_noted, none_written, word_below)
