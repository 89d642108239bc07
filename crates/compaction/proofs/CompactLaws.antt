-- The walk that keeps the last record of each word. Assumes nothing.
use mathlib.Core.Path.{◌≡◌, refl, sym, ◌∙◌, ap, ap₂}
use mathlib.Core.Bool.{Bool, true, false, not}
use mathlib.Core.List.{List, [], ◌∷◌, ◌++◌, append_assoc}
use Prim.Native.Nat.{ℕ, ◌+◌, ◌-◌, ◌≤◌, ◌<◌}
use native.Mathlib.Omega.{arith}
use lib.ListN.{length, take, drop, replicate, length-append, length-drop, length-replicate, take-append-drop}
use lib.Seq.{take-take, drop-drop, drop-append-add, length-take-le}
use mir.Syntax.{w64}
use mir.Val.{Fits}
use mir.Facts.{Fits-le}
use Rattle.model.specs.Convert.{front_size, records, joined, left_over, superseded, last_of_each, kept_of}
use Rattle.model.specs.Image.{stored}
use Rattle.buffers.specs.Move.{bytes_moved}
use Rattle.buffers.proofs.MoveLaws.{length_moved, take_moved, drop_moved, part_of_front}
use Rattle.compaction.specs.declared.front.FrontRecord.{FrontRecord}
use Rattle.compaction.specs.Front.{written_word, AtFront}
use Rattle.compaction.specs.Last.{noted, last_places, last_here}
use Rattle.compaction.specs.Compacted.{Compacted}
use Rattle.compaction.proofs.LastLaws.{superseded_told, length_noted, front_in, front_none, front_one, front_length}

-- WHAT IS COMPACTED, record by record
nothing_compacted : (bs : List ℕ) → records stored bs ≡ [] → kept_of bs ≡ bs
unfolding kept_of left_over last_of_each joined
nothing_compacted bs e = rw e

module _ (x rest : List ℕ) (one : records stored (x ++ rest) ≡ x ∷ records stored rest) where
  same_left_over : left_over stored (x ++ rest) ≡ left_over stored rest
  unfolding left_over joined
  same_left_over =
      ap (λ xs. drop (length (joined xs)) (x ++ rest)) one
      ∙ ap (λ n. drop n (x ++ rest)) (length-append x (joined (records stored rest)))
      ∙ drop-append-add x rest (length (joined (records stored rest)))

  record_dropped : superseded x (records stored rest) ≡ true → kept_of (x ++ rest) ≡ kept_of rest
  unfolding kept_of last_of_each joined
  record_dropped s = ap₂ (λ xs l. joined (last_of_each xs) ++ l) one same_left_over ∙ rw s

  record_kept : superseded x (records stored rest) ≡ false → kept_of (x ++ rest) ≡ x ++ kept_of rest
  unfolding kept_of last_of_each joined
  record_kept s =
      ap₂ (λ xs l. joined (last_of_each xs) ++ l) one same_left_over
      ∙ rw s (append_assoc x (joined (last_of_each (records stored rest))) (left_over stored rest))

-- THE WALK: the records before `from` have left the bytes before `to`, and nothing has changed after those.
-- `places_before`: where the last records stand before those from `from` on are noted
pub record CompactedSoFar (end : ℕ) (entry last : List ℕ) (from to : ℕ) (buffer : List ℕ) : Type 0 where
  pub room : end ≤ length entry
  pub from_within : from ≤ end
  pub to_within : to ≤ from
  pub same_length : length buffer ≡ length entry
  pub rest_same : drop to buffer ≡ drop to entry
  pub places_before : List ℕ
  pub places_sized : length places_before ≡ 8192
  pub places : last ≡ last_places from (records stored (drop from (take end entry))) places_before
  pub bytes : kept_of (take end entry) ≡ take to buffer ++ kept_of (drop from (take end entry))

pub none_compacted : (end : ℕ) (entry last : List ℕ) → end ≤ length entry → last ≡ last_places 0 (records stored (take end entry)) (replicate 8192 0) →
    CompactedSoFar end entry last 0 0 entry
none_compacted end entry last h p =
    record {
      room = h;
      from_within = omega arith;
      to_within = omega arith;
      same_length = refl;
      rest_same = refl;
      places_before = replicate 8192 0;
      places_sized = length-replicate {A = ℕ} 8192 0;
      places = p;
      bytes = refl;
    }

module _ {end : ℕ} {entry last : List ℕ} {from to : ℕ} {b : List ℕ} (i : CompactedSoFar end entry last from to b) where
  -- what is yet to be compacted is as it was
  abbrev left : List ℕ
  left = drop from (take end entry)

  left_same : take (end - from) (drop from b) ≡ left
  left_same =
      ap (take (end - from)) (ap (λ n. drop n b) split ∙ sym (drop-drop (from - to) to b) ∙ ap (drop (from - to)) i.rest_same ∙ drop-drop (from - to) to entry ∙ ap (λ n. drop n entry) (sym split))
      ∙ part_of_front from (end - from) entry (let x = i.room in let y = i.from_within in omega arith)
      ∙ ap (λ n. drop from (take n entry)) (let y = i.from_within in let e : from + (end - from) ≡ end = omega arith in e)
    where
      split : from ≡ to + (from - to)
      split = let y = i.to_within in omega arith

  length_left : length left ≡ end - from
  length_left = length-drop from (take end entry) ∙ ap (λ n. n - from) (length-take-le end entry i.room)

  module _ (z : front_size stored (take (end - from) (drop from b)) ≡ 0) (exit : List ℕ) (moved : exit ≡ bytes_moved from to (end - from) b) where
    pub all_compacted : Compacted end entry (to + (end - from)) exit
    unfolding bytes_moved
    all_compacted =
        let h = i.from_within in
        let t = i.to_within in
        let all : kept_of (take end entry) ≡ take to b ++ left =
        i.bytes ∙ ap (λ xs. take to b ++ xs) (nothing_compacted left (front_none left (rw left_same at z)))
        in
        record {
          size = sym (ap length all ∙ length-append (take to b) left ∙ ap₂ ◌+◌ (length-take-le to b (let x = i.same_length in let y = i.room in omega arith)) length_left);
          shorter = omega arith;
          bytes =
              moved
              ∙ ap₂ ◌++◌ (ap (λ xs. take to b ++ xs) left_same ∙ sym all)
              (sym (drop-drop (end - from) to b) ∙ ap (drop (end - from)) i.rest_same ∙ drop-drop (end - from) to entry);
        }

  module _ {r : FrontRecord} (g : AtFront (take (end - from) (drop from b)) r) where
    f : AtFront left r
    f = rw left_same at g

    one_within : from + r.size ≤ end
    one_within = let y = front_in left r f in let z = length_left in let h = i.from_within in omega arith

    pub one_fits : Fits w64 end → Fits w64 (from + r.size)
    one_fits e = Fits-le one_within e

    pub kept_fits : Fits w64 end → Fits w64 (to + r.size)
    kept_fits e = Fits-le (let y = one_within in let z = i.to_within in omega arith) e

    pub one_in_buffer : from + r.size ≤ length b
    one_in_buffer = let y = one_within in let z = i.same_length in let h = i.room in omega arith

    pub one_less : end - (from + r.size) < end - from
    one_less = let y = one_within in let h = f.has_bytes in omega arith

    abbrev one : List ℕ
    one = take r.size left

    abbrev rest : List ℕ
    rest = drop r.size left

    records_left : records stored left ≡ one ∷ records stored rest
    records_left = front_one left r f

    rest_is : rest ≡ drop (from + r.size) (take end entry)
    rest_is = drop-drop r.size from (take end entry)

    whole : one ++ rest ≡ left
    whole = take-append-drop r.size left

    records_whole : records stored (one ++ rest) ≡ one ∷ records stored rest
    records_whole = ap (records stored) whole ∙ records_left

    places_now : last ≡ last_places from (one ∷ records stored rest) i.places_before
    places_now = i.places ∙ ap (λ xs. last_places from xs i.places_before) records_left

    told : superseded one (records stored rest) ≡ not (last_here r.word last from)
    told =
        superseded_told from one (records stored rest) i.places_before i.places_sized (let y = front_length left r f in let h = f.has_bytes in omega arith)
        ∙ ap₂ (λ t w. not (last_here w t from)) (sym places_now) (sym f.word_is)

    -- the places once this record is noted too
    places_next : last ≡ last_places (from + r.size) (records stored (drop (from + r.size) (take end entry))) (noted (written_word one) from i.places_before)
    unfolding last_places
    places_next =
        places_now
        ∙ ap₂ (λ n xs. last_places (from + n) (records stored xs) (noted (written_word one) from i.places_before)) (front_length left r f) rest_is

    module _ (is_last : Bool) (asked : is_last ≡ last_here r.word last from) where
      pub one_dropped : is_last ≡ false → CompactedSoFar end entry last (from + r.size) to b
      one_dropped e =
          record {
            room = i.room;
            from_within = one_within;
            to_within = let y = i.to_within in omega arith;
            same_length = i.same_length;
            rest_same = i.rest_same;
            places_before = noted (written_word one) from i.places_before;
            places_sized = length_noted (written_word one) from i.places_before ∙ i.places_sized;
            places = places_next;
            bytes =
                i.bytes
                ∙ ap (λ xs. take to b ++ xs)
                (ap kept_of (sym whole) ∙ record_dropped one rest records_whole (told ∙ ap not (sym asked ∙ e)) ∙ ap kept_of rest_is);
          }

      pub one_kept : is_last ≡ true → (exit : List ℕ) → exit ≡ bytes_moved from to r.size b → CompactedSoFar end entry last (from + r.size) (to + r.size) exit
      one_kept e exit moved =
          record {
            room = i.room;
            from_within = one_within;
            to_within = omega arith;
            same_length = ap length moved ∙ length_moved b from to r.size below one_in_buffer ∙ i.same_length;
            rest_same =
                ap (drop (to + r.size)) moved ∙ drop_moved b from to r.size below one_in_buffer ∙ sym (drop-drop r.size to b) ∙ ap (drop r.size) i.rest_same
                ∙ drop-drop r.size to entry;
            places_before = noted (written_word one) from i.places_before;
            places_sized = length_noted (written_word one) from i.places_before ∙ i.places_sized;
            places = places_next;
            bytes =
                i.bytes
                ∙ ap (λ xs. take to b ++ xs) (ap kept_of (sym whole) ∙ record_kept one rest records_whole (told ∙ ap not (sym asked ∙ e)))
                ∙ sym (append_assoc (take to b) one (kept_of rest))
                ∙ ap₂ (λ xs ys. xs ++ kept_of ys) (sym front_now) rest_is;
          }
        where
          below : to ≤ from
          below = i.to_within

          front_now : take (to + r.size) exit ≡ take to b ++ one
          front_now =
              ap (take (to + r.size)) moved ∙ take_moved b from to r.size below one_in_buffer
              ∙ ap (λ xs. take to b ++ xs) (sym (take-take r.size (end - from) (drop from b) (let y = one_within in omega arith)) ∙ ap (take r.size) left_same)

pub ruleset compacts = (none_compacted, one_fits, kept_fits, one_in_buffer, all_compacted, one_less, one_dropped, one_kept)

-- the bytes lent to the first walk
pub part_size : (n : ℕ) (l : List ℕ) → n ≤ length l → n ≡ length (take n l)
part_size n l h = sym (length-take-le n l h)
