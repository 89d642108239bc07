-- The statements on `convert` and on both rules hold, and the five bytes stand after the only ST. Assumes nothing.
use mathlib.Core.Path.{◌≡◌, refl, sym, ◌∙◌, ap, ap₂, subst}
use mathlib.Core.Bool.{Bool, true, false, cond, false≢true}
use mathlib.Core.List.{List, [], ◌∷◌, ◌++◌, map, append-nil, append_assoc}
use mathlib.Core.Option.{Option, none, some}
use Prim.Native.Nat.{ℕ, suc, ◌+◌}
use native.Mathlib.Omega.{arith}
use lib.ListN.{length, take, drop, replicate, length-append, take-append-drop}
use lib.Seq.{take-append-add, drop-append-add}
use Rattle.model.specs.Registers.{Delivery, Machine}
use Rattle.model.specs.Image.{stored, today, ME, ST, WD, RN, Mark, mark_of, nothing_loaded, has, memory_of, or_else, loaded, image_after, image, stored_image}
use Rattle.model.specs.Convert.{front_size, records, joined, left_over, some_writes, last_of_each, kept_of, added, renewed, compacted, is_start, start_end, with_zeros_at, convert_on, convert_after, convert}
use Rattle.model.specs.Converted.{Sublist, none_left, kept, dropped, OneAnAddress, with_todays_start, RulesAgree, TodayAsStored, ConvertedLoads, RefusedConverts, ConvertedRecords, ConvertedIsSublist}
use Rattle.formats.proofs.CutLaws.{AllWhole, joined_records, joined_left_over, cut}
use Rattle.formats.proofs.LastLaws.{none_lost, last_of_each_sublist, last_of_each_once, last_of_each_whole, kept_records, kept_left_over, compacted_in_two}
use Rattle.formats.proofs.FrontLaws.{accepted_whole, starts, accepted_starts}
use Rattle.formats.proofs.OverwrittenLaws.{last_of_each_loads}
use Rattle.formats.proofs.OnceLaws.{all_whole_renewed, some_writes_renewed, once_renewed, no_record_today, as_stored, today_as_stored_where_once, accepted_once}

-- BOTH RULES on an image by its records
module _ (bs : List ℕ) where
  by_records : image_after (nothing_loaded stored) (joined (records stored bs) ++ left_over stored bs) ≡ stored_image bs
  unfolding stored_image
  by_records = ap stored_image (cut stored bs).same

  whole_today : AllWhole today (map renewed (records stored bs))
  whole_today = all_whole_renewed (records stored bs) (cut stored bs).all_whole

  agree_where_once : OneAnAddress (map renewed (records stored bs)) → image (with_todays_start bs) ≡ stored_image bs
  unfolding image memory_of or_else as_stored with_todays_start
  agree_where_once h =
      today_as_stored_where_once (nothing_loaded today) (records stored bs) (left_over stored bs) refl (omega arith) (cut stored bs).all_whole
      (cut stored bs).none_after h (λ a e. absurd (false≢true e))
      ∙ by_records

  no_more_today : front_size today (left_over stored bs) ≡ 0
  no_more_today = no_record_today (left_over stored bs) (cut stored bs).none_after

  records_today : records today (with_todays_start bs) ≡ map renewed (records stored bs)
  unfolding with_todays_start
  records_today = joined_records today (map renewed (records stored bs)) (left_over stored bs) whole_today no_more_today

  left_over_today : left_over today (with_todays_start bs) ≡ left_over stored bs
  unfolding with_todays_start
  left_over_today = joined_left_over today (map renewed (records stored bs)) (left_over stored bs) whole_today no_more_today

pub rules_agree : RulesAgree
rules_agree bs h = agree_where_once bs (once_renewed (records stored bs) (cut stored bs).all_whole h)

pub today_as_stored : TodayAsStored
unfolding image with_todays_start
today_as_stored bs v m b e =
    let once = accepted_once (nothing_loaded today) (map renewed (records stored bs)) (left_over stored bs) v m b refl (whole_today bs) e in
    sym (agree_where_once bs once.0) ∙ e

-- THE FIVE BYTES stand where ST ends
zeros_after : (x bs : List ℕ) (p : ℕ) → with_zeros_at (length x + p) (x ++ bs) ≡ x ++ with_zeros_at p bs
unfolding with_zeros_at
zeros_after x bs p =
    ap₂ (λ ys zs. ys ++ (replicate 5 0 ++ zs)) (take-append-add x bs p) (drop-append-add x bs p) ∙ append_assoc x (take p bs) (replicate 5 0 ++ drop p bs)

pub zeros_length : (p : ℕ) (bs : List ℕ) → length (with_zeros_at p bs) ≡ length bs + 5
unfolding with_zeros_at
zeros_length p bs =
    let new = length-append (take p bs) (replicate 5 0 ++ drop p bs) in
    let old = length-append (take p bs) (drop p bs) in
    let same = ap length (take-append-drop p bs) in
    omega arith

added_to_start : (k : Option Mark) → added k ≡ cond (is_start k) (replicate 5 0) []
unfolding added is_start
added_to_start none = refl
added_to_start (some ME) = refl
added_to_start (some ST) = refl
added_to_start (some WD) = refl
added_to_start (some RN) = refl

no_start_renewed : (xs : List (List ℕ)) → starts xs ≡ 0 → joined (map renewed xs) ≡ joined xs
unfolding joined starts renewed
no_start_renewed [] h = refl
no_start_renewed (x ∷ xs) h = rw (added_to_start (mark_of x)) (by_test (is_start (mark_of x)) h (λ g. no_start_renewed xs g))
  where
    by_test : (b : Bool) → cond b (suc (starts xs)) (starts xs) ≡ 0 → (starts xs ≡ 0 → joined (map renewed xs) ≡ joined xs) →
        (x ++ cond b (replicate 5 0) []) ++ joined (map renewed xs) ≡ x ++ joined xs
    by_test true h more = absurd (omega arith)
    by_test false h more = ap₂ (λ ys zs. ys ++ zs) (append-nil x) (more h)

one_start_renewed : (xs : List (List ℕ)) → starts xs ≡ 1 → joined (map renewed xs) ≡ with_zeros_at (start_end xs) (joined xs)
unfolding joined starts start_end with_zeros_at renewed
one_start_renewed [] h = absurd (omega arith)
one_start_renewed (x ∷ xs) h =
    append_assoc x (added (mark_of x)) (joined (map renewed xs))
    ∙ ap (λ ys. x ++ ys) (rw (added_to_start (mark_of x)) (by_test (is_start (mark_of x)) h (λ g. one_start_renewed xs g)))
    ∙ sym (zeros_after x (joined xs) _)
  where
    by_test : (b : Bool) → cond b (suc (starts xs)) (starts xs) ≡ 1 → (starts xs ≡ 1 → joined (map renewed xs) ≡ with_zeros_at (start_end xs) (joined xs)) →
        cond b (replicate 5 0) [] ++ joined (map renewed xs) ≡ with_zeros_at (cond b 0 (start_end xs)) (joined xs)
    by_test true h more = ap (λ ys. replicate 5 0 ++ ys) (no_start_renewed xs (omega arith))
    by_test false h more = more h

-- WHAT IS ACCEPTED is compacted
module _ (bs : List ℕ) (v : Delivery) (m : Machine) (b : ℕ) (e : stored_image bs ≡ loaded v m b) where
  converted : convert bs ≡ with_todays_start (kept_of bs)
  unfolding convert convert_after convert_on stored_image
  converted = rw e (compacted_in_two bs)

  still_stored : stored_image (kept_of bs) ≡ loaded v m b
  unfolding stored_image kept_of
  still_stored = last_of_each_loads (nothing_loaded stored) (records stored bs) (left_over stored bs) v m b refl (cut stored bs).all_whole (by_records bs ∙ e)

  none_left_over : left_over stored bs ≡ []
  none_left_over =
      accepted_whole (nothing_loaded stored) (records stored bs) (left_over stored bs) v m b refl (cut stored bs).all_whole (cut stored bs).none_after (by_records bs ∙ e)

  its_bytes : joined (records stored bs) ≡ bs
  its_bytes = sym (append-nil (joined (records stored bs))) ∙ ap (λ ys. joined (records stored bs) ++ ys) (sym none_left_over) ∙ (cut stored bs).same

  one_start : starts (records stored bs) ≡ 1
  unfolding has
  one_start =
      accepted_starts (nothing_loaded stored) (records stored bs) (left_over stored bs) v m b refl (cut stored bs).all_whole (cut stored bs).none_after (by_records bs ∙ e)

  todays_start : with_todays_start bs ≡ with_zeros_at (start_end (records stored bs)) bs
  unfolding with_todays_start
  todays_start =
      ap (λ ys. joined (map renewed (records stored bs)) ++ ys) none_left_over ∙ append-nil (joined (map renewed (records stored bs)))
      ∙ one_start_renewed (records stored bs) one_start ∙ ap (with_zeros_at (start_end (records stored bs))) its_bytes

  its_records : ConvertedRecords bs
  its_records =
      let xs = records stored bs in
      let new : records today (convert bs) ≡ map renewed (last_of_each xs) =
      ap (records today) converted ∙ records_today (kept_of bs) ∙ ap (map renewed) (kept_records bs) in
      let whole = last_of_each_whole stored xs (cut stored bs).all_whole in
      record {
        in_order = subst (λ ys. Sublist ys (map renewed xs)) (sym new) (sublist_map (last_of_each_sublist xs));
        one_an_address = subst OneAnAddress (sym new) (once_renewed (last_of_each xs) whole (last_of_each_once xs));
        none_lost =
            λ a.
            ap (some_writes a) new ∙ some_writes_renewed a (last_of_each xs) whole ∙ ap (some_writes a) (sym (append-nil (last_of_each xs)))
            ∙ none_lost a xs [] ∙ ap (some_writes a) (append-nil xs);
        whole = ap (left_over today) converted ∙ left_over_today (kept_of bs) ∙ kept_left_over bs ∙ none_left_over;
      }
    where
      sublist_map : {ys zs : List (List ℕ)} → Sublist ys zs → Sublist (map renewed ys) (map renewed zs)
      sublist_map none_left = none_left
      sublist_map (kept x s) = kept (renewed x) (sublist_map s)
      sublist_map (dropped x s) = dropped (renewed x) (sublist_map s)

-- where they stand in what was kept
pub compacted_with_zeros : (bs : List ℕ) (v : Delivery) (m : Machine) (b : ℕ) → stored_image bs ≡ loaded v m b →
    compacted bs ≡ with_zeros_at (start_end (records stored (kept_of bs))) (kept_of bs)
compacted_with_zeros bs v m b e = compacted_in_two bs ∙ todays_start (kept_of bs) v m b (still_stored bs v m b e)

pub converted_loads : ConvertedLoads
converted_loads bs v m b e =
    ap image (converted bs v m b e)
    ∙ rules_agree (kept_of bs) (subst OneAnAddress (sym (kept_records bs)) (last_of_each_once (records stored bs)))
    ∙ still_stored bs v m b e

pub refused_converts : RefusedConverts
unfolding convert convert_after convert_on stored_image
refused_converts bs n e = rw e refl

pub converted_is_sublist : ConvertedIsSublist
converted_is_sublist = its_records
