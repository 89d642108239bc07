-- A stored image of the model is 03's. Assumes nothing.
use mathlib.Core.Path.{◌≡◌, refl, ◌∙◌, ap, ap₂}
use mathlib.Core.Bool.{Bool, true, false, ◌&&◌, ◌||◌, not, cond}
use mathlib.Core.List.{List, [], ◌∷◌}
use mathlib.Core.Option.{Option, none, some}
use Prim.Native.Nat.{ℕ, zero, suc}
use native.Mathlib.Omega.{arith}
use lib.Dec.{ltb, leb, eqb, eqb-suc-zero}
use lib.ListN.{length, get_or, set, drop, replicate, length-drop}
use borrow.Author.Tests.{eqb-true, ltb-true, ltb-false, eq-eqb, ne_eqb}
use Rattle.model.specs.Registers.{no_delivery, Machine, machine}
use Rattle.model.specs.Questions.{ask, start_questions}
use Rattle.model.specs.Run.{unless_refused}
use Rattle.model.specs.Image.{Mark, ME, ST, WD, RN, marked, mark_of, start_size, record_size, number_at, stored, Loading, nothing_loaded, has, or_else, memory_of, zero_registers, machine_of, in_order, memory_allowed, address_allowed, unless_written, address_new, record_questions, words_with, with_word, with_record, Image, refused_image, loaded, checked, record_on, whole_record_on, marked_on, bytes_on, image_from, image_after, stored_image}
use Rattle.model.proofs.BranchLaws.{and_left}
use Rattle.model.proofs.QuestionLaws.{ask_yes}
use Rattle.reference.specs.Run as Run03
use Rattle.reference.specs.View as View
use Rattle.reference.specs.Equal.{ImageEqual}
use Rattle.reference.proofs.TestLaws.{leb_is_not_ltb, ltb_is_not_leb, ask_is_cond}
use Rattle.reference.proofs.Numbers.{number_equal, registers_at_view}
use Rattle.reference.proofs.Start.{start_equal}
use Rattle.reference.proofs.ImageLaws.{Stored, stored_with}

-- what the records so far gave, as 03 holds it
abbrev loading : Loading → Run03.Image
loading l =
    record {
      refusal = 0;
      has_me = has l.memory;
      has_st = has l.registers;
      regs = View.regs (or_else zero_registers l.registers);
      mem = memory_of l;
      budget = 0;
    }

-- 03'S READING OF ONE RECORD, by the four tests on its mark
unfoldable long_of : (me st wd rn : Bool) → ℕ
long_of me st wd rn = cond me 6 (cond st 61 (cond wd 14 (cond rn 6 0)))

unfoldable refusal_of : (me st wd rn : Bool) → Run03.Image → List ℕ → ℕ
refusal_of me st wd rn i bs =
    let l = long_of me st wd rn in
    cond (eqb l 0 || ltb (length bs) l) 41
    (cond ((cond i.has_me me (not me) || (st && i.has_st)) || (rn && (not i.has_st || ltb l (length bs)))) 42
    (cond (me && ltb 8192 (Run03.big 2 4 bs)) 43 (cond (wd && leb (length i.mem) (Run03.big 2 4 bs)) 44 0)))

unfoldable record_of : (me st wd : Bool) → Run03.Image → List ℕ → Run03.Image
record_of me st wd i bs =
    cond me (record { refusal = 0; has_me = true; has_st = i.has_st; regs = i.regs; mem = replicate (Run03.big 2 4 bs) 0; budget = 0 })
    (cond st (record { refusal = 0; has_me = true; has_st = true; regs = Run03.regs_in bs; mem = i.mem; budget = 0 })
    (cond wd (record { refusal = 0; has_me = true; has_st = i.has_st; regs = i.regs; mem = set i.mem (Run03.big 2 4 bs) (Run03.big 6 8 bs); budget = 0 })
    (record { refusal = 0; has_me = true; has_st = true; regs = i.regs; mem = i.mem; budget = Run03.big 2 4 bs })))

unfoldable read_by : (me st wd rn : Bool) → (fuel : ℕ) → Run03.Image → List ℕ → Run03.Image
read_by me st wd rn n i bs =
    let k = refusal_of me st wd rn i bs in
    let j = record_of me st wd i bs in
    let more = Run03.image_from n j (drop (long_of me st wd rn) bs) in
    cond (not (eqb k 0)) (Run03.bad_image k) (cond rn (Run03.checked j) more)

unfoldable mark_by : (me st wd rn : Bool) → Option Mark
mark_by me st wd rn = cond me (some ME) (cond st (some ST) (cond wd (some WD) (cond rn (some RN) none)))

-- one mark at most
marks_apart : (a b c d : ℕ) (bs : List ℕ) → eqb a c ≡ false → Run03.mark_is a b bs ≡ true → Run03.mark_is c d bs ≡ false
unfolding Run03.mark_is
marks_apart a b c d bs apart e = rw (eqb-true (get_or bs 0 0) a (and_left (eqb (get_or bs 0 0) a) (eqb (get_or bs 1 0) b) e), apart) refl

mark_cases : (P : (me st wd rn : Bool) → Type 0) (bs : List ℕ) →
    P true false false false → P false true false false → P false false true false → P false false false true → P false false false false →
    P (Run03.mark_is 77 69 bs) (Run03.mark_is 83 84 bs) (Run03.mark_is 87 68 bs) (Run03.mark_is 82 78 bs)
mark_cases P bs me st wd rn other = by_me (Run03.mark_is 77 69 bs) refl
  where
    by_rn : (t : Bool) → P false false false t
    by_rn true = rn
    by_rn false = other

    by_wd : (t : Bool) → Run03.mark_is 87 68 bs ≡ t → P false false t (Run03.mark_is 82 78 bs)
    by_wd true e = rw (marks_apart 87 68 82 78 bs refl e) wd
    by_wd false e = by_rn (Run03.mark_is 82 78 bs)

    by_st : (t : Bool) → Run03.mark_is 83 84 bs ≡ t → P false t (Run03.mark_is 87 68 bs) (Run03.mark_is 82 78 bs)
    by_st true e = rw (marks_apart 83 84 87 68 bs refl e, marks_apart 83 84 82 78 bs refl e) st
    by_st false e = by_wd (Run03.mark_is 87 68 bs) refl

    by_me : (t : Bool) → Run03.mark_is 77 69 bs ≡ t → P t (Run03.mark_is 83 84 bs) (Run03.mark_is 87 68 bs) (Run03.mark_is 82 78 bs)
    by_me true e = rw (marks_apart 77 69 83 84 bs refl e, marks_apart 77 69 87 68 bs refl e, marks_apart 77 69 82 78 bs refl e) me
    by_me false e = by_st (Run03.mark_is 83 84 bs) refl

-- a refusal, or what comes after; 41 stands in front
record_view : (b : Bool) (k c : ℕ) (x : Image) (y : Run03.Image) → ask b 41 k ≡ c → (ask b 41 k ≡ 0 → View.image x ≡ y) →
    View.image (cond b (unless_refused k refused_image x) (refused_image 41)) ≡ cond (not (eqb c 0)) (Run03.bad_image c) y
unfolding ask unless_refused View.image
record_view true zero c x y e f = rw (← e) (f refl)
record_view true (suc k) c x y e f = rw (← e, eqb-suc-zero k) refl
record_view false k c x y e f = rw (← e) refl

-- 42 of each mark
me_first : (a : Bool) → not a ≡ not ((cond a true false || false) || false)
me_first true = refl
me_first false = refl

me_before : (a : Bool) → a ≡ not ((cond a false true || false) || false)
me_before true = refl
me_before false = refl

st_single : (a b : Bool) → (a && not b) ≡ not ((cond a false true || b) || false)
st_single true true = refl
st_single true false = refl
st_single false b = refl

rn_last : (a b c d : Bool) → c ≡ not d → (a && (b && c)) ≡ not ((cond a false true || false) || (not b || d))
rn_last true true c d e = e
rn_last true false c d e = refl
rn_last false b c d e = refl

none_after : (bs : List ℕ) → eqb (length (drop 6 bs)) 0 ≡ not (ltb 6 (length bs))
none_after bs = by_test (ltb 6 (length bs)) refl
  where
    by_test : (t : Bool) → ltb 6 (length bs) ≡ t → eqb (length (drop 6 bs)) 0 ≡ not t
    by_test true e =
        let long = ltb-true 6 (length bs) e in
        let rest = length-drop 6 bs in
        ne_eqb (length (drop 6 bs)) 0 (λ z. omega arith)
    by_test false e =
        let short = ltb-false 6 (length bs) e in
        let rest = length-drop 6 bs in
        eq-eqb (length (drop 6 bs)) 0 (omega arith)

-- 1 to 4, once RN has come
abbrev ready : Machine → (budget : ℕ) → Run03.Image
ready m b = record { refusal = 0; has_me = true; has_st = true; regs = View.regs m.registers; mem = m.memory; budget = b }

checked_view : (m : Machine) (b : ℕ) → View.image (checked no_delivery m b) ≡ Run03.checked (ready m b)
unfolding checked unless_refused View.image Run03.checked
checked_view m b = rw (← (start_equal m)) (by_answer (start_questions no_delivery m))
  where
    by_answer : (k : ℕ) → View.image (unless_refused k refused_image (loaded no_delivery m b)) ≡ cond (eqb k 0) (ready m b) (Run03.bad_image k)
    by_answer zero = refl
    by_answer (suc k) = rw (eqb-suc-zero k) refl

-- one record on both sides, opened together
unfoldable records_opened : Unit {0}
unfolding long_of refusal_of record_of read_by mark_by has or_else memory_of machine_of record_size in_order memory_allowed address_allowed address_new record_questions with_word with_record record_on whole_record_on marked_on
records_opened = tt

-- 51 is not asked of a stored image
not_asked : (b : Bool) → b ≡ true → ask b 51 0 ≡ 0
unfolding ask
not_asked b e = rw e refl

module _ (n : ℕ) (l : Loading) (bs : List ℕ) (v : Stored l) (f : Loading → List ℕ → Image)
    (h : (j : Loading) (rest : List ℕ) → Stored j → View.image (f j rest) ≡ Run03.image_from n (loading j) rest) where
  unfoldable ReadAlike : (me st wd rn : Bool) → Type 0
  ReadAlike me st wd rn = View.image (marked_on (mark_by me st wd rn) l bs f) ≡ read_by me st wd rn n (loading l) bs

  me_alike : ReadAlike true false false false
  unfolding ReadAlike records_opened
  me_alike =
      let long = length bs in
      let a = has l.memory in
      record_view (leb 6 long) (record_questions ME l (length (drop 6 bs)) bs) (refusal_of true false false false (loading l) bs) _ _
      (ask_is_cond (leb 6 long) (ltb long 6) 41 (leb_is_not_ltb 6 long)
      (ask_is_cond (not a) ((cond a true false || false) || false) 42 (me_first a)
      (ask_is_cond (leb (number_at 2 4 bs) 8192) (ltb 8192 (Run03.big 2 4 bs)) 43
      (ap (λ x. leb x 8192) (number_equal 2 4 bs) ∙ leb_is_not_ltb (Run03.big 2 4 bs) 8192) (ask_is_cond true false 44 refl (not_asked true refl)))))
      (λ _.
      h (with_record ME l bs) (drop 6 bs) (stored_with ME l bs v)
      ∙ ap (λ x. Run03.image_from n (record { refusal = 0; has_me = true; has_st = has l.registers; regs = View.regs (or_else zero_registers l.registers); mem = replicate x 0; budget = 0 }) (drop 6 bs)) (number_equal 2 4 bs))

  -- ST is 03's, of 59 bytes after its mark
  start_is_61 : start_size l.rules ≡ 61
  unfolding start_size
  start_is_61 = rw v.0 refl

  st_alike : ReadAlike false true false false
  unfolding ReadAlike records_opened
  st_alike =
      let long = length bs in
      let a = has l.memory in
      let b = has l.registers in
      rw start_is_61
      (record_view (leb 61 long) (record_questions ST l (length (drop 61 bs)) bs) (refusal_of false true false false (loading l) bs) _ _
      (ask_is_cond (leb 61 long) (ltb long 61) 41 (leb_is_not_ltb 61 long)
      (ask_is_cond (a && not b) ((cond a false true || b) || false) 42 (st_single a b)
      (ask_is_cond true false 43 refl (ask_is_cond true false 44 refl (not_asked true refl)))))
      (λ e.
      h (with_record ST l bs) (drop 61 bs) (stored_with ST l bs v)
      ∙ ap₂ (λ t r. Run03.image_from n (record { refusal = 0; has_me = t; has_st = true; regs = r; mem = memory_of l; budget = 0 }) (drop 61 bs))
      (and_left a (not b) (ask_yes (a && not b) _ _ (ask_yes (leb 61 long) _ _ e).1).0) (registers_at_view bs)))

  may_write : address_new WD l bs ≡ true
  unfolding address_new unless_written
  may_write = rw v.0 refl

  its_words : (a w : ℕ) → words_with l.rules a w (memory_of l) ≡ set (memory_of l) a w
  unfolding words_with
  its_words a w = rw v.0 refl

  wd_alike : ReadAlike false false true false
  unfolding ReadAlike records_opened
  wd_alike =
      let long = length bs in
      let a = has l.memory in
      record_view (leb 14 long) (record_questions WD l (length (drop 14 bs)) bs) (refusal_of false false true false (loading l) bs) _ _
      (ask_is_cond (leb 14 long) (ltb long 14) 41 (leb_is_not_ltb 14 long)
      (ask_is_cond a ((cond a false true || false) || false) 42 (me_before a)
      (ask_is_cond true false 43 refl
      (ask_is_cond (ltb (number_at 2 4 bs) (length (memory_of l))) (leb (length (memory_of l)) (Run03.big 2 4 bs)) 44
      (ap (λ x. ltb x (length (memory_of l))) (number_equal 2 4 bs) ∙ ltb_is_not_leb (Run03.big 2 4 bs) (length (memory_of l))) (not_asked (address_new WD l bs) may_write)))))
      (λ _.
      h (with_record WD l bs) (drop 14 bs) (stored_with WD l bs v)
      ∙ ap (λ ws. Run03.image_from n (record { refusal = 0; has_me = true; has_st = has l.registers; regs = View.regs (or_else zero_registers l.registers); mem = ws; budget = 0 }) (drop 14 bs)) (its_words _ _)
      ∙ ap₂ (λ x c. Run03.image_from n (record { refusal = 0; has_me = true; has_st = has l.registers; regs = View.regs (or_else zero_registers l.registers); mem = set (memory_of l) x c; budget = 0 }) (drop 14 bs))
      (number_equal 2 4 bs) (number_equal 6 8 bs))

  rn_alike : ReadAlike false false false true
  unfolding ReadAlike records_opened machine
  rn_alike =
      let long = length bs in
      let a = has l.memory in
      let b = has l.registers in
      record_view (leb 6 long) (record_questions RN l (length (drop 6 bs)) bs) (refusal_of false false false true (loading l) bs) _ _
      (ask_is_cond (leb 6 long) (ltb long 6) 41 (leb_is_not_ltb 6 long)
      (ask_is_cond (a && (b && eqb (length (drop 6 bs)) 0)) ((cond a false true || false) || (not b || ltb 6 long)) 42
      (rn_last a b (eqb (length (drop 6 bs)) 0) (ltb 6 long) (none_after bs)) (ask_is_cond true false 43 refl (ask_is_cond true false 44 refl (not_asked true refl)))))
      (λ _.
      ap (λ u. View.image (checked u (machine_of l) (number_at 2 4 bs))) v.1 ∙ checked_view (machine_of l) (number_at 2 4 bs) ∙ ap (λ x. Run03.checked (ready (machine_of l) x)) (number_equal 2 4 bs))

  none_alike : ReadAlike false false false false
  unfolding ReadAlike records_opened View.image
  none_alike = refl

  alike : View.image (marked_on (mark_of bs) l bs f)
      ≡ read_by (Run03.mark_is 77 69 bs) (Run03.mark_is 83 84 bs) (Run03.mark_is 87 68 bs) (Run03.mark_is 82 78 bs) n (loading l) bs
  unfolding ReadAlike mark_of marked mark_by Run03.mark_is
  alike = mark_cases ReadAlike bs me_alike st_alike wd_alike rn_alike none_alike

-- THE IMAGE
image_from_view : (n : ℕ) (l : Loading) (bs : List ℕ) → Stored l → View.image (image_from n l bs) ≡ Run03.image_from n (loading l) bs
unfolding image_from bytes_on View.image long_of refusal_of record_of read_by Run03.image_from Run03.record_refusal Run03.record_long Run03.with_record
image_from_view zero l bs v = refl
image_from_view (suc n) l [] v = refl
image_from_view (suc n) l (b ∷ bs) v =
    rw (eqb-suc-zero (length bs)) (alike n l (b ∷ bs) v (λ j rest. image_from n j rest) (λ j rest r. image_from_view n j rest r))

pub image_equal : ImageEqual
unfolding stored_image image_after has or_else memory_of Run03.image
image_equal bs = image_from_view (suc (length bs)) (nothing_loaded stored) bs (refl, refl)
