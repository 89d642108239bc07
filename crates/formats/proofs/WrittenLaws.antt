-- A written image loads as just what was written. Assumes nothing.
use mathlib.Core.Path.{◌≡◌, refl, sym, ◌∙◌, ap, ap₂}
use mathlib.Core.Bool.{Bool, true, false, ◌&&◌, ◌||◌}
use mathlib.Core.List.{List, [], ◌∷◌, ◌++◌, append_assoc}
use mathlib.Core.Option.{none, some}
use Prim.Native.Nat.{ℕ, zero, suc, ◌+◌, ◌*◌, ◌/◌, ◌%◌, ◌^◌, ◌≤◌, ◌<◌}
use native.Mathlib.Nat.{pow-suc, div-one, div-eq_of_lt, div-div-eq-div-mul, div-add-mod}
use native.Mathlib.Numerals.{unary_clauses}
use native.Mathlib.Omega.{arith}
use lib.Dec.{leb, eqb}
use lib.ListN.{length, take, drop, set, replicate, length-append, length-replicate}
use lib.Seq.{drop-append-add, get_or_at, set_at, append_snoc}
use borrow.Author.Tests.{leb-true, le-leb, lt-ltb, eqb-true, ne_eqb}
use Rattle.model.specs.Words.{Pointer}
use Rattle.model.specs.Registers.{Delivery, no_delivery, Machine, machine}
use Rattle.model.specs.Questions.{all, ask, pointer_in_range, delivery_in_range, dbr_fits}
use Rattle.model.specs.Run.{unless_refused}
use Rattle.model.specs.Image.{today, Mark, ME, ST, WD, RN, marked, mark_of, start_size, record_size, big_endian, number_at, pointer_at, pointers_at, registers_at, delivery_at, Loading, nothing_loaded, has, or_else, memory_of, machine_of, in_order, memory_allowed, address_allowed, unless_written, address_new, record_questions, with_written, words_with, with_word, with_record, checked, record_on, whole_record_on, image_after, image}
use Rattle.model.specs.Listing.{ascii}
use Rattle.model.specs.Write.{bytes, pointer_bytes, pointers_bytes, ME_record, stored_ST, delivery_bytes, ST_record, WD_record, RN_record, word_records, written_image}
use Rattle.model.specs.Written.{Writable, WrittenLoads}
use Rattle.model.proofs.BranchLaws.{and_left, and_right, cond_holds}
use Rattle.model.proofs.WordLaws.{Within, in_range_within}
use Rattle.formats.proofs.WriteLaws.{length_ME, length_RN, length_WD, length_stored_ST, length_ST}
use Rattle.model.proofs.FitLaws.{Fit}
use Rattle.model.proofs.SoundLaws.{passing_fits, delivery_passes}
use Rattle.formats.proofs.ImageLaws.{registers_at_front, image_is_records, checked_passed}

-- NUMBERS read back: what came before n bytes of v is v's part above them
bytes_read_on : (n v : ℕ) → big_endian (v / 256 ^ n) (bytes n v) ≡ v
unfolding big_endian bytes
bytes_read_on zero v = div-one v
bytes_read_on (suc n) v = ap (λ x. big_endian x (bytes n v)) high_byte_read ∙ bytes_read_on n v
  where
    high_byte_read : 256 * (v / 256 ^ suc n) + v / 256 ^ n % 256 ≡ v / 256 ^ n
    high_byte_read =
        ap (λ x. 256 * x + v / 256 ^ n % 256) (ap (λ x. v / x) (pow-suc 256 n) ∙ sym (div-div-eq-div-mul v (256 ^ n) 256)) ∙ div-add-mod (v / 256 ^ n) 256

bytes_read : (n v : ℕ) → v < 256 ^ n → big_endian 0 (bytes n v) ≡ v
bytes_read n v h = ap (λ x. big_endian x (bytes n v)) (sym (div-eq_of_lt h)) ∙ bytes_read_on n v

number_past : {s : ℕ} (front bs : List ℕ) → length front ≡ s → (a n : ℕ) → number_at (s + a) n (front ++ bs) ≡ number_at a n bs
unfolding number_at
number_past front bs e a n = ap (λ xs. big_endian 0 (take n xs)) (ap (λ k. drop (k + a) (front ++ bs)) (sym e) ∙ drop-append-add front bs a)

-- POINTERS, from the front of their bytes on
pointer_read : (p : Pointer) (bs : List ℕ) → Within p → pointer_at 0 (pointer_bytes p ++ bs) ≡ p
unfolding pointer_at number_at pointer_bytes bytes
pointer_read p bs h =
    λ i. record { ring = bytes_read 1 p.ring (omega arith) i; segment = bytes_read 2 p.segment (omega arith) i; word = bytes_read 2 p.word (omega arith) i }

pointers_past : (n a : ℕ) (p : Pointer) (bs : List ℕ) → pointers_at n (a + 5) (pointer_bytes p ++ bs) ≡ pointers_at n a bs
unfolding pointers_at pointer_at number_at pointer_bytes bytes
pointers_past zero a p bs = refl
pointers_past (suc n) a p bs = ap₂ (λ q qs. q ∷ qs) (simp unary_clauses) (pointers_past n (a + 5) p bs)

pointers_read : (ps : List Pointer) → all pointer_in_range ps ≡ true → pointers_at (length ps) 0 (pointers_bytes ps) ≡ ps
unfolding pointers_at pointers_bytes all
pointers_read [] e = refl
pointers_read (p ∷ ps) e =
    ap₂ (λ q qs. q ∷ qs) (pointer_read p (pointers_bytes ps) (in_range_within p (and_left (pointer_in_range p) _ e)))
    (pointers_past (length ps) 0 p (pointers_bytes ps) ∙ pointers_read ps (and_right (pointer_in_range p) _ e))

-- ST reads back as the registers and delivery that pass 1 to 4
module _ (v : Delivery) (m : Machine) (b : ℕ) (h : Writable v m b) where
  fit : Fit (λ a. a < 2 ^ 64) (λ n. n ≡ 8) (length m.memory) m.registers
  fit = passing_fits v m h.passes h.a_fits h.eight_prs

  ST_has_registers : length (stored_ST m.registers) ≡ 61
  ST_has_registers = let l = length_stored_ST m.registers in omega arith

  stored_read : registers_at (stored_ST m.registers) ≡ m.registers
  unfolding registers_at stored_ST ascii pointer_at number_at pointers_at pointer_bytes bytes dbr_fits
  stored_read =
      let r = m.registers in
      let d = fit.dbr_fit in
      let z = leb-true r.dbr.length 4096 (and_left (leb r.dbr.length 4096) _ d.fits) in
      let ps = ap (λ n. pointers_at n 0 (pointers_bytes r.prs)) (sym h.eight_prs) ∙ pointers_read r.prs fit.pointers_fit.prs_in_range in
      λ i.
      record {
        a = bytes_read 8 r.a (omega arith) i;
        dbr = record { address = bytes_read 4 r.dbr.address (omega arith) i; length = bytes_read 2 r.dbr.length (omega arith) i };
        ipr = pointer_read r.ipr (pointers_bytes r.prs) fit.pointers_fit.ipr_within i;
        prs = ps i;
      }

  registers_read : registers_at (ST_record m.registers v) ≡ m.registers
  unfolding ST_record
  registers_read = registers_at_front (stored_ST m.registers) (delivery_bytes v) (let l = ST_has_registers in omega arith) ∙ stored_read

  delivery_read : delivery_at today (ST_record m.registers v) ≡ v
  unfolding delivery_at ST_record number_at delivery_bytes bytes delivery_in_range
  delivery_read =
      let e = delivery_passes v m h.passes in
      let segments = and_right (leb v.switch 1) (leb v.save 4095 && leb v.handler 4095) e in
      let x = leb-true v.switch 1 (and_left (leb v.switch 1) _ e) in
      let y = leb-true v.save 4095 (and_left (leb v.save 4095) _ segments) in
      let z = leb-true v.handler 4095 (and_right (leb v.save 4095) _ segments) in
      let past : (a n : ℕ) → number_at (61 + a) n (stored_ST m.registers ++ delivery_bytes v) ≡ number_at a n (delivery_bytes v) =
      number_past (stored_ST m.registers) (delivery_bytes v) ST_has_registers in
      λ i.
      record {
        switch = (past 0 1 ∙ bytes_read 1 v.switch (omega arith)) i;
        save = (past 1 2 ∙ bytes_read 2 v.save (omega arith)) i;
        handler = (past 3 2 ∙ bytes_read 2 v.handler (omega arith)) i;
      }

-- THE OTHER RECORDS' numbers
module _ (n : ℕ) (h : n < 2 ^ 32) where
  size_read : number_at 2 4 (ME_record n) ≡ n
  unfolding number_at ME_record ascii bytes
  size_read = bytes_read 4 n h

  address_read : (w : ℕ) → number_at 2 4 (WD_record n w) ≡ n
  unfolding number_at WD_record ascii bytes
  address_read w = bytes_read 4 n h

  budget_read : number_at 2 4 (RN_record n) ≡ n
  unfolding number_at RN_record ascii bytes
  budget_read = bytes_read 4 n h

word_read : (a w : ℕ) → w < 2 ^ 64 → number_at 6 8 (WD_record a w) ≡ w
unfolding number_at WD_record ascii bytes
word_read a w h = bytes_read 8 w h

-- A RECORD that has a yes to all
record_loads : (k : Mark) (l : Loading) (one rest : List ℕ) → mark_of one ≡ some k → length one ≡ record_size l.rules k → record_questions k l (length rest) one ≡ 0 →
    image_after l (one ++ rest) ≡ record_on k l one (λ j. image_after j rest)
unfolding whole_record_on unless_refused
record_loads k l one rest is_marked sized e = image_is_records k l one rest is_marked sized ∙ rw e

-- ME, and what it alone has given
abbrev only_memory : (memory : List ℕ) → Loading
only_memory xs = record { rules = today; memory = some xs; written = λ _. false; registers = none; delivery = no_delivery }

ME_marked : (n : ℕ) → mark_of (ME_record n) ≡ some ME
unfolding ME_record ascii mark_of marked
ME_marked n = refl

ME_loads : (n : ℕ) (rest : List ℕ) → n ≤ 8192 → image (ME_record n ++ rest) ≡ image_after (only_memory (replicate n 0)) rest
unfolding image record_size record_questions in_order memory_allowed address_allowed address_new has ask record_on with_record
ME_loads n rest l =
    let e = size_read n (omega arith) in
    record_loads ME (nothing_loaded today) (ME_record n) rest (ME_marked n) (length_ME n) (rw (e, le-leb n 8192 l)) ∙ rw e

-- THE RECORDS AFTER IT
module _ (v : Delivery) (m : Machine) (b : ℕ) (h : Writable v m b) where
  -- what ME, ST and some WD have given
  abbrev given : (memory : List ℕ) → (written : ℕ → Bool) → Loading
  given xs f = record { rules = today; memory = some xs; written = f; registers = some m.registers; delivery = v }

  ST_marked : mark_of (ST_record m.registers v) ≡ some ST
  unfolding ST_record stored_ST ascii mark_of marked
  ST_marked = refl

  ST_loads : (xs rest : List ℕ) → image_after (only_memory xs) (ST_record m.registers v ++ rest) ≡ image_after (given xs (λ _. false)) rest
  unfolding record_size start_size record_questions in_order memory_allowed address_allowed address_new has ask record_on with_record
  ST_loads xs rest =
      record_loads ST (only_memory xs) (ST_record m.registers v) rest ST_marked (let l = length_ST m.registers v in omega arith) refl
      ∙ rw (registers_read v m b h, delivery_read v m b h)

  RN_loads : (f : ℕ → Bool) → image_after (given m.memory f) (RN_record b) ≡ checked v m b
  unfolding RN_record ascii bytes mark_of marked record_size record_questions in_order memory_allowed address_allowed address_new has ask record_on machine_of machine or_else memory_of
  RN_loads f = record_loads RN (given m.memory f) (RN_record b) [] refl (length_RN b) refl ∙ ap (checked v m) (budget_read b h.budget_fits)

  module _ (a w : ℕ) (xs rest : List ℕ) (f : ℕ → Bool) (inside : a < length xs) (small : length xs ≤ 8192) (fits : w < 2 ^ 64) (new : f a ≡ false) where
    WD_marked : mark_of (WD_record a w) ≡ some WD
    unfolding WD_record ascii mark_of marked
    WD_marked = refl

    WD_yes : record_questions WD (given xs f) (length rest) (WD_record a w) ≡ 0
    unfolding record_questions in_order memory_allowed address_allowed address_new unless_written has ask memory_of or_else
    WD_yes = rw (address_read a (omega arith) w, lt-ltb a (length xs) inside, new)

    WD_loads : image_after (given xs f) (WD_record a w ++ rest) ≡ image_after (given (set xs a w) (λ x. eqb a x || f x)) rest
    unfolding record_size record_on with_record with_word with_written words_with or_else memory_of
    WD_loads =
        record_loads WD (given xs f) (WD_record a w) rest WD_marked (length_WD a w) WD_yes ∙ rw (address_read a (omega arith) w, word_read a w fits)

  -- WD by WD: the words from address a on are still zero, and none of them is written
  words_load : (ws xs ms : List ℕ) (a : ℕ) (f : ℕ → Bool) → length xs ≡ a → ms ≡ xs ++ replicate (length ws) 0 → m.memory ≡ xs ++ ws →
      ((x : ℕ) → a ≤ x → f x ≡ false) → image_after (given ms f) (word_records a ws ++ RN_record b) ≡ checked v m b
  unfolding word_records
  words_load [] xs ms a f l e q new = ap (λ zs. image_after (given zs f) (RN_record b)) (e ∙ sym q) ∙ RN_loads f
  words_load (w ∷ ws) xs ms a f l e q new =
      let zeros : List ℕ = replicate (length ws) 0 in
      let long : length ms ≡ length m.memory = simp (e, q, length-append, length-replicate) in
      let least : length m.memory ≡ a + suc (length ws) = simp (q, length-append, l) in
      let next : length (xs ++ w ∷ []) ≡ suc a = length-append xs (w ∷ []) ∙ omega arith in
      let rest : m.memory ≡ xs ++ (w ∷ []) ++ ws = q ∙ sym (append_snoc xs w ws) in
      let fits : w < 2 ^ 64 = rw (q, get_or_at xs w ws 0 a l) at (h.words_fit a) in
      cond_holds (λ ys. image_after (given ms f) (ys ++ word_records (suc a) ws ++ RN_record b) ≡ checked v m b) (eqb w 0)
      (λ z.
      words_load ws (xs ++ w ∷ []) ms (suc a) f next (e ∙ ap (λ y. xs ++ y ∷ zeros) (sym (eqb-true w 0 z)) ∙ sym (append_snoc xs w zeros)) rest
      (λ x g. new x (omega arith)))
      (λ _.
      ap (image_after (given ms f)) (append_assoc (WD_record a w) (word_records (suc a) ws) (RN_record b))
      ∙ WD_loads a w ms (word_records (suc a) ws ++ RN_record b) f (omega arith) (omega arith) fits (new a (omega arith))
      ∙ words_load ws (xs ++ w ∷ []) (set ms a w) (suc a) (λ x. eqb a x || f x) next
      (ap (λ ys. set ys a w) e ∙ set_at xs 0 zeros w a l ∙ sym (append_snoc xs w zeros)) rest
      (λ x g. rw (ne_eqb a x (λ y. omega arith)) (new x (omega arith))))

pub written_loads : WrittenLoads
unfolding written_image
written_loads v m b h =
    let n = length m.memory in
    let words = word_records 0 m.memory in
    let start = ST_record m.registers v in
    ap image (simp append_assoc)
    ∙ ME_loads n (start ++ (words ++ RN_record b)) h.memory_allowed
    ∙ ST_loads v m b h (replicate n 0) (words ++ RN_record b)
    ∙ words_load v m b h m.memory [] (replicate n 0) 0 (λ _. false) refl refl refl (λ x g. refl)
    ∙ checked_passed v m b 0 (sym h.passes) refl
