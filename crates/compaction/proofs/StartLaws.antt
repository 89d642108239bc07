-- Where ST ends, record by record, and the five zeros put there. Assumes nothing.
use mathlib.Core.Path.{◌≡◌, refl, sym, ◌∙◌, ap, ap₂}
use mathlib.Core.Bool.{Bool, true, false, cond}
use mathlib.Core.List.{List, ◌++◌, append_assoc}
use mathlib.Core.Option.{Option, none, some}
use Rattle.std.specs.Prelude as Std
use Rattle.std.specs.Prelude.{Some, None}
use Prim.Native.Nat.{ℕ, ◌+◌, ◌-◌, ◌^◌, ◌≤◌, ◌<◌}
use native.Mathlib.Omega.{arith}
use lib.Dec.{leb}
use lib.ListN.{length, take, drop, replicate, length-append, length-drop}
use lib.Seq.{take-take, take_at, take-append-le, drop_at, drop-drop, drop-append-add, length-take-le, length-paste}
use mir.Syntax.{w64}
use mir.Val.{Fits}
use mir.Facts.{Fits-le}
use Rattle.model.specs.Registers.{Delivery, Machine}
use Rattle.model.specs.Image.{Rules, stored, Mark, mark_of, record_size, loaded, stored_image}
use Rattle.model.specs.Convert.{size_by, front_size, records, kept_of, compacted, is_start, start_end, with_zeros_at}
use Rattle.model.proofs.BranchLaws.{cond_holds}
use Rattle.formats.proofs.ImageLaws.{record_has_a_mark}
use Rattle.formats.proofs.ConvertLaws.{zeros_length, compacted_with_zeros}
use Rattle.fields.specs.declared.mark.Mark as Code
use Rattle.fields.specs.declared.mark.Mark.TheVariants.{Memory, Start, Word, Run}
use Rattle.fields.specs.Mark.{as_mark}
use Rattle.fields.proofs.MarkLaws.{mark_of_record}
use Rattle.buffers.specs.Move.{bytes_moved, cleared}
use Rattle.buffers.proofs.MoveLaws.{part_of_front}
use Rattle.compaction.specs.declared.front.FrontRecord.{FrontRecord}
use Rattle.compaction.specs.Front.{AtFront}
use Rattle.compaction.specs.Compacted.{Compacted}
use Rattle.compaction.specs.Renewed.{with_zeros, ZerosAdded, Renewed}
use Rattle.compaction.proofs.LastLaws.{from_is_drop, front_in, front_none, front_one, front_length}

-- ST BY ITS MARK
other_mark : (k : Code.Mark) → (k ≡ Start → ⊥) → false ≡ is_start (as_mark (Some k))
unfolding is_start
other_mark Memory d = refl
other_mark Start d = absurd (d refl)
other_mark Word d = refl
other_mark Run d = refl

module _ (k : Code.Mark) (bs : List ℕ) (q : as_mark (Some k) ≡ mark_of bs) where
  pub start_is : k ≡ Start → true ≡ is_start (mark_of bs)
  unfolding is_start
  start_is e = rw (← q, e) refl

  pub other_is_none : (k ≡ Start → ⊥) → false ≡ is_start (mark_of bs)
  other_is_none d = other_mark k d ∙ ap is_start q

pub unmarked_is_none : (bs : List ℕ) (k : Std.Option Code.Mark) → as_mark k ≡ mark_of bs → k ≡ None → false ≡ is_start (mark_of bs)
unfolding is_start
unmarked_is_none bs k q e = rw (← q, e) refl

pub ruleset start_marks = (start_is, other_is_none, unmarked_is_none)

-- A RECORD has its mark
size_has_a_mark : (v : Rules) (k : Option Mark) (n : ℕ) → (size_by v k n ≡ 0 → ⊥) → 2 ≤ size_by v k n
unfolding size_by
size_has_a_mark v none n h = absurd (h refl)
size_has_a_mark v (some k) n h =
    cond_holds (λ s. (s ≡ 0 → ⊥) → 2 ≤ s) (leb (record_size v k) n) (λ _ _. record_has_a_mark v k) (λ _ f. absurd (f refl)) h

module _ (bs : List ℕ) (r : FrontRecord) (f : AtFront bs r) where
  front_mark : mark_of (take r.size bs) ≡ mark_of bs
  unfolding front_size
  front_mark =
      mark_of_record r.size bs
      (let y = size_has_a_mark stored (mark_of bs) (length bs) (let p = f.has_bytes in let q = f.size_is in λ e. absurd (omega arith)) in let z = f.size_is in omega arith)

  start_end_front : start_end (records stored bs) ≡ r.size + cond (is_start (mark_of bs)) 0 (start_end (records stored (drop r.size bs)))
  unfolding start_end
  start_end_front =
      ap start_end (front_one bs r f)
      ∙ ap₂ (λ n k. n + cond (is_start k) 0 (start_end (records stored (drop r.size bs)))) (front_length bs r f) front_mark

-- THE WALK: no record before `at` is an ST
pub record StartSoFar (bs : List ℕ) (at : ℕ) : Type 0 where
  pub in_bytes : at ≤ length bs
  pub same : at + start_end (records stored (drop at bs)) ≡ start_end (records stored bs)

pub no_start_yet : (bs : List ℕ) → StartSoFar bs 0
no_start_yet bs = record { in_bytes = omega arith; same = omega arith }

module _ {bs : List ℕ} {at : ℕ} (i : StartSoFar bs at) where
  pub no_start : front_size stored (take (length bs - at) (drop at bs)) ≡ 0 → at ≡ start_end (records stored bs)
  unfolding start_end
  no_start e =
      let none : start_end (records stored (drop at bs)) ≡ 0 = ap start_end (front_none (drop at bs) (rw (from_is_drop at bs) at e)) in let z = i.same in omega arith

  pub end_within : at ≤ length bs
  end_within = i.in_bytes

module _ {bs : List ℕ} {at : ℕ} (i : StartSoFar bs at) {r : FrontRecord} (g : AtFront (take (length bs - at) (drop at bs)) r) where
  f : AtFront (drop at bs) r
  f = rw (from_is_drop at bs) at g

  pub start_in_bytes : at + r.size ≤ length bs
  start_in_bytes = let y = front_in (drop at bs) r f in let z = length-drop at bs in let h = i.in_bytes in omega arith

  pub start_fits : length bs < 2 ^ 64 → Fits w64 (at + r.size)
  start_fits l = Fits-le start_in_bytes (record { fits = l })

  module _ (b : Bool) (q : b ≡ is_start (mark_of (take (length bs - at) (drop at bs)))) where
    here : start_end (records stored (drop at bs)) ≡ r.size + cond b 0 (start_end (records stored (drop (at + r.size) bs)))
    here =
        start_end_front (drop at bs) r f
        ∙ ap₂ (λ c xs. r.size + cond c 0 (start_end (records stored xs))) (ap (λ xs. is_start (mark_of xs)) (sym (from_is_drop at bs)) ∙ sym q)
        (drop-drop r.size at bs)

    pub start_less : length bs - (at + r.size) < length bs - at
    start_less = let y = start_in_bytes in let h = f.has_bytes in omega arith

    pub start_found : b ≡ true → at + r.size ≡ start_end (records stored bs)
    start_found e = let y : start_end (records stored (drop at bs)) ≡ r.size + 0 = here ∙ rw e in let z = i.same in omega arith

    pub start_later : b ≡ false → StartSoFar bs (at + r.size)
    start_later e =
        let y : start_end (records stored (drop at bs)) ≡ r.size + start_end (records stored (drop (at + r.size) bs)) = here ∙ rw e in
        record { in_bytes = start_in_bytes; same = let z = i.same in omega arith }

pub ruleset start_walk = (no_start_yet, no_start, end_within, start_in_bytes, start_fits, start_less, start_found, start_later)

-- FIVE ZEROS where it ends
module _ (end : ℕ) (t : List ℕ) (room : end + 5 ≤ length t) (at : ℕ) (h : at ≤ end) where
  abbrev up : List ℕ
  up = bytes_moved at (at + 5) (end - at) t

  abbrev rest : List ℕ
  rest = drop (end + 5) t

  front_five : length (take (at + 5) t) ≡ at + 5
  front_five = length-take-le (at + 5) t (omega arith)

  up_shape : up ≡ take (at + 5) t ++ (drop at (take end t) ++ rest)
  unfolding bytes_moved
  up_shape =
      append_assoc (take (at + 5) t) (take (end - at) (drop at t)) (drop (at + 5 + (end - at)) t)
      ∙ ap₂ (λ xs k. take (at + 5) t ++ (xs ++ drop k t))
      (part_of_front at (end - at) t (omega arith) ∙ ap (λ k. drop at (take k t)) (let e : at + (end - at) ≡ end = omega arith in e))
      (let e : at + 5 + (end - at) ≡ end + 5 = omega arith in e)

  up_front : take at up ≡ take at (take end t)
  up_front =
      ap (take at) up_shape ∙ take-append-le at (take (at + 5) t) _ (let z = front_five in omega arith) ∙ take-take at (at + 5) t (omega arith)
      ∙ sym (take-take at end t h)

  up_end : drop (at + 5) up ≡ drop at (take end t) ++ rest
  up_end = ap (drop (at + 5)) up_shape ∙ drop_at (take (at + 5) t) _ (at + 5) front_five

  pub zeros_put : cleared at 5 up ≡ with_zeros_at at (take end t) ++ rest
  unfolding cleared with_zeros_at
  zeros_put = ap₂ (λ xs ys. (xs ++ replicate 5 0) ++ ys) up_front up_end ∙ simp append_assoc

pub front_sized : (end : ℕ) (t : List ℕ) → end + 5 ≤ length t → end ≡ length (take end t)
front_sized end t room = sym (length-take-le end t (omega arith))

module _ (end : ℕ) (t : List ℕ) (room : end + 5 ≤ length t) (at : ℕ) (is : at ≡ start_end (records stored (take end t))) (h : at ≤ length (take end t)) where
  pub start_within : at ≤ end
  start_within = let z = length-take-le end t (omega arith) in omega arith

  pub five_fits : length t < 2 ^ 64 → Fits w64 (at + 5)
  five_fits l = record { fits = let y = start_within in omega arith }

  pub room_to_move_up : at + 5 + (end - at) ≤ length t
  room_to_move_up = let y = start_within in omega arith

  pub room_to_clear : (u : List ℕ) → u ≡ bytes_moved at (at + 5) (end - at) t → (k : ℕ) → k ≤ 5 → at + k ≤ length u
  unfolding bytes_moved
  room_to_clear u e k h =
      let y = start_within in
      let z = length-drop at t in
      let l : length u ≡ length t = ap length e ∙ length-paste t (at + 5) (drop at t) (end - at) (omega arith) (omega arith) in
      omega arith

  pub zeros_added : (u v : List ℕ) → u ≡ bytes_moved at (at + 5) (end - at) t → v ≡ cleared at 5 u → ZerosAdded end t (end + 5) v
  unfolding with_zeros
  zeros_added u v e g =
      record {
        size = refl;
        bytes = g ∙ ap (cleared at 5) e ∙ zeros_put end t room at start_within ∙ ap (λ k. with_zeros_at k (take end t) ++ drop (end + 5) t) is;
      }

-- A STORED IMAGE MADE TODAY'S
module _ (end : ℕ) (t : List ℕ) (n : ℕ) (u : List ℕ) (c : Compacted end t n u) where
  abbrev new : List ℕ
  new = kept_of (take end t)

  kept_front : take n u ≡ new
  kept_front = ap (take n) c.bytes ∙ take_at new (drop n t) n (sym c.size)

  after_five : drop (n + 5) u ≡ drop (n + 5) t
  after_five =
      ap (drop (n + 5)) c.bytes ∙ ap (λ k. drop k (new ++ drop n t)) (let s = c.size in let e : n + 5 ≡ length new + 5 = omega arith in e)
      ∙ drop-append-add new (drop n t) 5 ∙ drop-drop 5 n t

  pub all_renewed : (k : ℕ) (v : List ℕ) → ZerosAdded n u k v → Renewed end t k v
  unfolding with_zeros
  all_renewed k v z =
      record {
        size = z.size ∙ ap (λ j. j + 5) c.size ∙ sym (zeros_length (start_end (records stored new)) new);
        within = let y = z.size in let s = c.shorter in omega arith;
        bytes = z.bytes ∙ ap₂ (λ xs ys. with_zeros xs ++ ys) kept_front (ap (λ j. drop j u) z.size ∙ after_five ∙ ap (λ j. drop j t) (sym z.size));
      }

  pub room_for_five : end + 5 ≤ length t → n + 5 ≤ length u
  room_for_five h =
      let y = length-append new (drop n t) in
      let z = length-drop n t in
      let l = ap length c.bytes in
      let s = c.size in
      let w = c.shorter in
      omega arith

pub ruleset renews = (front_sized, start_within, five_fits, room_to_move_up, room_to_clear, zeros_added, all_renewed, room_for_five)

-- which is `compacted`, where the image is accepted
pub renewed_compacted : (bs : List ℕ) (v : Delivery) (m : Machine) (b : ℕ) → stored_image bs ≡ loaded v m b → with_zeros (kept_of bs) ≡ compacted bs
unfolding with_zeros
renewed_compacted bs v m b e = sym (compacted_with_zeros bs v m b e)
