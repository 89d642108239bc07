-- The statements of Bracketing. Assumes nothing.
use mathlib.Core.Path.{◌≡◌, refl, sym, ap, ◌∙◌, subst}
use mathlib.Core.Bool.{Bool, true, false, ◌&&◌, not, cond}
use mathlib.Core.List.{List, [], ◌∷◌}
use Prim.Native.Nat.{ℕ, zero, suc, ◌+◌, ◌*◌, ◌/◌, ◌%◌, ◌^◌, ◌≤◌, ◌<◌}
use native.Mathlib.Omega.{arith}
use lib.Dec.{eqb}
use lib.ListN.{length, get_or, set}
use borrow.Author.Tests.{eqb-true, eq-eqb, ne_eqb}
use Rattle.model.specs.Words.{field, on, descriptor_in}
use Rattle.model.specs.Registers.{Dbr, Delivery, Machine, machine}
use Rattle.model.specs.Questions.{ask, all, memory_fits, start_questions}
use Rattle.model.specs.Image.{loaded, image}
use Rattle.model.specs.Write.{written_image}
use Rattle.model.specs.Written.{Writable}
use Rattle.model.specs.Brackets.{Row, in_row, rows_of, row_fits, table_fits, one_row, segments_questions, table_questions, flag_bit, bracket_bits, with_brackets, by_row, with_rows, set_brackets, bracketed_text, image_bracketed}
use Rattle.model.specs.Bracketing.{RefusedTableWritesNothing, FieldsOfRow, SetByRow, TableSetsFields, TableKeepsOthers, TableKeepsSize, Permuted, same, behind, exchanged, and_then, OrderOfRowsFree, BracketedLoads}
use Rattle.model.proofs.BranchLaws.{by_equality, cond_rel, and_left}
use Rattle.model.proofs.ListLaws.{EachWord, each_word_set}
use Rattle.formats.proofs.WrittenLaws.{written_loads}
use Rattle.model.proofs.QuestionLaws.{then_ask_yes, then_ask_same}
use Rattle.formats.proofs.BracketLaws.{RowWithin, row_within, all_rows_of, OnlyRow, one_row_only, each_segment_passes, Accepted, accepted, flag_bit_within, bracket_bits_within, length_with_rows, with_rows_other, with_rows_own, refused_same, accepted_written}

pub refused_table_writes_nothing : RefusedTableWritesNothing
refused_table_writes_nothing m b rows h = refused_same m b rows h

-- BY FIELDS. A flag's bit is on just where the flag is
flag_on : (n x : ℕ) → x ≡ flag_bit n → eqb x 1 ≡ not (eqb n 0)
unfolding flag_bit
flag_on zero x e = ne_eqb x 1 (λ h. let z : x ≡ 0 = e in omega arith)
flag_on (suc n) x e =
    let q = ne_eqb (suc n) 0 (λ h. omega arith) in eq-eqb x 1 (e ∙ ap (λ t. cond t 0 1) q) ∙ ap not (sym q)

-- a word with other bits 40 to 51: those are what was put there, the fields around them stay
abbrev with_bits : (bits word : ℕ) → ℕ
with_bits b w = w % 2 ^ 40 + 2 ^ 40 * b + 2 ^ 52 * (w / 2 ^ 52)

module _ (b w : ℕ) (h : b < 2 ^ 12) where
  bits_put : field 40 12 (with_bits b w) ≡ b
  unfolding field
  bits_put = omega arith

  address_same : field 0 24 (with_bits b w) ≡ field 0 24 w
  unfolding field
  address_same = omega arith

  length_same : field 24 16 (with_bits b w) ≡ field 24 16 w
  unfolding field
  length_same = omega arith

  valid_same : field 52 1 (with_bits b w) ≡ field 52 1 w
  unfolding field
  valid_same = omega arith

  gate_same : field 53 11 (with_bits b w) ≡ field 53 11 w
  unfolding field
  gate_same = omega arith

-- a field within them is a field of the bits
module _ (w b : ℕ) (e : field 40 12 w ≡ b) where
  r1_in_bits : field 40 3 w ≡ b % 2 ^ 3
  unfolding field
  r1_in_bits = omega arith

  r2_in_bits : field 43 3 w ≡ b / 2 ^ 3 % 2 ^ 3
  unfolding field
  r2_in_bits = omega arith

  r3_in_bits : field 46 3 w ≡ b / 2 ^ 6 % 2 ^ 3
  unfolding field
  r3_in_bits = omega arith

  read_in_bits : field 49 1 w ≡ b / 2 ^ 9 % 2
  unfolding field
  read_in_bits = omega arith

  write_in_bits : field 50 1 w ≡ b / 2 ^ 10 % 2
  unfolding field
  write_in_bits = omega arith

  execute_in_bits : field 51 1 w ≡ b / 2 ^ 11 % 2
  unfolding field
  execute_in_bits = omega arith

-- and the bits of a row are its numbers
module _ (x y z f g k : ℕ) (x_within : x ≤ 7) (y_within : y ≤ 7) (z_within : z ≤ 7) (f_within : f ≤ 1) (g_within : g ≤ 1) (k_within : k ≤ 1) where
  abbrev row_bits : ℕ
  row_bits = x + 8 * y + 64 * z + 512 * f + 1024 * g + 2048 * k

  r1_of_bits : row_bits % 2 ^ 3 ≡ x
  r1_of_bits = omega arith

  r2_of_bits : row_bits / 2 ^ 3 % 2 ^ 3 ≡ y
  r2_of_bits = omega arith

  r3_of_bits : row_bits / 2 ^ 6 % 2 ^ 3 ≡ z
  r3_of_bits = omega arith

  read_of_bits : row_bits / 2 ^ 9 % 2 ≡ f
  read_of_bits = omega arith

  write_of_bits : row_bits / 2 ^ 10 % 2 ≡ g
  write_of_bits = omega arith

  execute_of_bits : row_bits / 2 ^ 11 % 2 ≡ k
  execute_of_bits = omega arith

module _ (l : ℕ) (r : Row) (w : ℕ) (h : RowWithin l r) where
  pub fields_of_row : FieldsOfRow r (descriptor_in w) (descriptor_in (with_brackets r w))
  unfolding descriptor_in on with_brackets bracket_bits
  fields_of_row =
      let b = bracket_bits r in
      let small = bracket_bits_within l r h in
      let e = bits_put b w small in
      let x : r.r1 ≤ 7 = let p = h.r1_within in let q = h.r2_within in let t = h.r3_within in omega arith in
      let y : r.r2 ≤ 7 = let q = h.r2_within in let t = h.r3_within in omega arith in
      let z = h.r3_within in
      let f = flag_bit_within r.read in
      let g = flag_bit_within r.write in
      let k = flag_bit_within r.execute in
      record {
        r1_set = r1_in_bits _ _ e ∙ r1_of_bits _ _ _ _ _ _ x y z f g k;
        r2_set = r2_in_bits _ _ e ∙ r2_of_bits _ _ _ _ _ _ x y z f g k;
        r3_set = r3_in_bits _ _ e ∙ r3_of_bits _ _ _ _ _ _ x y z f g k;
        read_set = flag_on r.read _ (read_in_bits _ _ e ∙ read_of_bits _ _ _ _ _ _ x y z f g k);
        write_set = flag_on r.write _ (write_in_bits _ _ e ∙ write_of_bits _ _ _ _ _ _ x y z f g k);
        execute_set = flag_on r.execute _ (execute_in_bits _ _ e ∙ execute_of_bits _ _ _ _ _ _ x y z f g k);
        address_kept = address_same b w small;
        length_kept = length_same b w small;
        valid_kept = ap (λ v. eqb v 1) (valid_same b w small);
        gate_kept = gate_same b w small;
      }

-- EACH SEGMENT has one row, and its descriptor is by it
module _ (m : List ℕ) (b : Dbr) (rows : List Row) (s : ℕ) (x : Accepted (length m) b rows) (below : s < b.length) (one : OnlyRow (rows_of s rows)) where
  its_row_fits : row_fits b.length one.row ≡ true
  unfolding all
  its_row_fits = and_left _ true (ap (all (row_fits b.length)) (sym one.only) ∙ all_rows_of (row_fits b.length) s rows x.rows_fit)

  word_by_its_row : get_or (with_rows b.length 0 rows b.address m) (b.address + s) 0 ≡ with_brackets one.row (get_or m (b.address + s) 0)
  unfolding by_row
  word_by_its_row =
      with_rows_own b.length 0 rows b.address m s (omega arith) (omega arith) (let h = x.within_memory in omega arith)
      ∙ ap (λ rs. by_row rs (get_or m (b.address + s) 0)) one.only

pub table_sets_fields : TableSetsFields
table_sets_fields m b rows e s below =
    let x = accepted (length m) b rows e in
    let one = one_row_only (rows_of s rows) (each_segment_passes b.length 0 rows x.segments_pass s (omega arith) (omega arith)) in
    let w = get_or m (b.address + s) 0 in
    record {
      row = one.row;
      only = one.only;
      fields =
          subst (λ z. FieldsOfRow one.row (descriptor_in w) (descriptor_in z))
          (sym (ap (λ k. get_or k (b.address + s) 0) (accepted_written m b rows e) ∙ word_by_its_row m b rows s x below one))
          (fields_of_row b.length one.row w (row_within b.length one.row (its_row_fits m b rows s x below one)));
    }

pub table_keeps_others : TableKeepsOthers
table_keeps_others m b rows x h =
    by_equality (table_questions (length m) b rows) 0
    (λ e. ap (λ k. get_or k x 0) (accepted_written m b rows e) ∙ with_rows_other b.length 0 rows b.address m x (λ p q. h (omega arith) (omega arith)))
    (λ d. ap (λ k. get_or k x 0) (refused_same m b rows d))

pub table_keeps_size : TableKeepsSize
table_keeps_size m b rows =
    by_equality (table_questions (length m) b rows) 0
    (λ e. ap length (accepted_written m b rows e) ∙ length_with_rows b.length 0 rows b.address m) (λ d. ap length (refused_same m b rows d))

-- THE ORDER OF ROWS: of permuted rows the count, each test and the segment's own row are the same
length_permuted : {xs ys : List Row} → Permuted xs ys → length xs ≡ length ys
length_permuted same = refl
length_permuted (behind x p) = ap suc (length_permuted p)
length_permuted (exchanged x y) = refl
length_permuted (and_then p q) = length_permuted p ∙ length_permuted q

and_exchanged : (a b c : Bool) → (a && (b && c)) ≡ (b && (a && c))
and_exchanged true b c = refl
and_exchanged false true c = refl
and_exchanged false false c = refl

all_permuted : (f : Row → Bool) {xs ys : List Row} → Permuted xs ys → all f xs ≡ all f ys
unfolding all
all_permuted f same = refl
all_permuted f (behind x p) = ap (λ t. f x && t) (all_permuted f p)
all_permuted f (exchanged {xs} x y) = and_exchanged (f x) (f y) (all f xs)
all_permuted f (and_then p q) = all_permuted f p ∙ all_permuted f q

chosen_exchanged : (a b : Bool) (x y : Row) (xs : List Row) →
    Permuted (cond a (x ∷ cond b (y ∷ xs) xs) (cond b (y ∷ xs) xs)) (cond b (y ∷ cond a (x ∷ xs) xs) (cond a (x ∷ xs) xs))
chosen_exchanged true true x y xs = exchanged x y
chosen_exchanged true false x y xs = same
chosen_exchanged false true x y xs = same
chosen_exchanged false false x y xs = same

rows_of_permuted : (s : ℕ) {xs ys : List Row} → Permuted xs ys → Permuted (rows_of s xs) (rows_of s ys)
unfolding rows_of
rows_of_permuted s same = same
rows_of_permuted s (behind x p) = cond_rel Permuted {b = in_row s x} refl (λ _. behind x (rows_of_permuted s p)) (λ _. rows_of_permuted s p)
rows_of_permuted s (exchanged {xs} x y) = chosen_exchanged (in_row s x) (in_row s y) x y (rows_of s xs)
rows_of_permuted s (and_then p q) = and_then (rows_of_permuted s p) (rows_of_permuted s q)

one_row_by_count : (xs ys : List Row) → length xs ≡ length ys → one_row xs ≡ one_row ys
unfolding one_row
one_row_by_count [] [] e = refl
one_row_by_count [] (y ∷ ys) e = absurd (omega arith)
one_row_by_count (x ∷ xs) [] e = absurd (omega arith)
one_row_by_count (x ∷ []) (y ∷ []) e = refl
one_row_by_count (x ∷ []) (y ∷ z ∷ ys) e = absurd (omega arith)
one_row_by_count (x ∷ z ∷ xs) (y ∷ []) e = absurd (omega arith)
one_row_by_count (x ∷ z ∷ xs) (y ∷ u ∷ ys) e = refl

by_row_permuted : (w : ℕ) {xs ys : List Row} → Permuted xs ys → length xs ≡ 1 → by_row xs w ≡ by_row ys w
unfolding by_row
by_row_permuted w same e = refl
by_row_permuted w (behind x p) e = refl
by_row_permuted w (exchanged x y) e = absurd (omega arith)
by_row_permuted w (and_then p q) e = by_row_permuted w p e ∙ by_row_permuted w q (sym (length_permuted p) ∙ e)

module _ {rows others : List Row} (p : Permuted rows others) where
  one_row_permuted : (s : ℕ) → one_row (rows_of s rows) ≡ one_row (rows_of s others)
  one_row_permuted s = one_row_by_count _ _ (length_permuted (rows_of_permuted s p))

  segments_permuted : (n s : ℕ) → segments_questions n s rows ≡ segments_questions n s others
  unfolding segments_questions
  segments_permuted zero s = refl
  segments_permuted (suc n) s = then_ask_same (one_row_permuted s) (λ _. segments_permuted n (suc s))

  questions_permuted : (n : ℕ) (b : Dbr) → table_questions n b rows ≡ table_questions n b others
  unfolding table_questions table_fits
  questions_permuted n b = rw (length_permuted p, all_permuted (row_fits b.length) p, segments_permuted b.length 0)

  with_rows_permuted : (n s a : ℕ) (m : List ℕ) → segments_questions n s rows ≡ 0 → with_rows n s rows a m ≡ with_rows n s others a m
  unfolding with_rows segments_questions
  with_rows_permuted zero s a m e = refl
  with_rows_permuted (suc n) s a m e =
      let passed = then_ask_yes (one_row (rows_of s rows)) (segments_questions n (suc s) rows) e in
      let one = ap length (one_row_only (rows_of s rows) passed.0).only in
      with_rows_permuted n (suc s) a _ passed.1
      ∙ ap (λ v. with_rows n (suc s) others a (set m (a + s) v)) (by_row_permuted (get_or m (a + s) 0) (rows_of_permuted s p) one)

pub order_of_rows_free : OrderOfRowsFree
unfolding set_brackets
order_of_rows_free m b rows others p =
    let q = questions_permuted p (length m) b in
    let k =
    cond_rel ◌≡◌ (ap (λ z. eqb z 0) q)
    (λ e. with_rows_permuted p b.length 0 b.address m (accepted (length m) b rows (eqb-true _ _ e)).segments_pass) (λ _. refl)
    in
    λ i. record { answer = q i; memory = k i }

answered : (m : List ℕ) (b : Dbr) (rows : List Row) → (set_brackets m b rows).answer ≡ table_questions (length m) b rows
unfolding set_brackets
answered m b rows = refl

-- THE IMAGE WRITTEN: words stay words of 64 bits, and 1 to 4 ask nothing of them
by_row_fits : (l w : ℕ) (rows : List Row) → all (row_fits l) rows ≡ true → w < 2 ^ 64 → by_row rows w < 2 ^ 64
unfolding by_row all with_brackets
by_row_fits l w [] e h = h
by_row_fits l w (r ∷ rs) e h =
    let small = bracket_bits_within l r (row_within l r (and_left (row_fits l r) _ e)) in omega arith

with_rows_fit : (l n s : ℕ) (rows : List Row) (a : ℕ) (m : List ℕ) → all (row_fits l) rows ≡ true → EachWord (λ w. w < 2 ^ 64) m →
    EachWord (λ w. w < 2 ^ 64) (with_rows n s rows a m)
unfolding with_rows
with_rows_fit l zero s rows a m e h = h
with_rows_fit l (suc n) s rows a m e h =
    with_rows_fit l n (suc s) rows a _ e
    (each_word_set (λ w. w < 2 ^ 64) m (a + s) _ h (by_row_fits l (get_or m (a + s) 0) (rows_of s rows) (all_rows_of (row_fits l) s rows e) (h (a + s))))

module _ (v : Delivery) (m : Machine) (b : ℕ) (rows : List Row) (h : Writable v m b) (e : table_questions (length m.memory) m.registers.dbr rows ≡ 0) where
  abbrev set_memory : List ℕ
  set_memory = (set_brackets m.memory m.registers.dbr rows).memory

  set_memory_fits : EachWord (λ w. w < 2 ^ 64) set_memory
  set_memory_fits =
      let d = m.registers.dbr in
      subst (EachWord (λ w. w < 2 ^ 64)) (sym (accepted_written m.memory d rows e))
      (with_rows_fit d.length d.length 0 rows d.address m.memory (accepted (length m.memory) d rows e).rows_fit h.words_fit)

  set_memory_passes : start_questions v (machine m.registers set_memory) ≡ 0
  unfolding start_questions machine ask memory_fits
  set_memory_passes = rw (table_keeps_size m.memory m.registers.dbr rows) h.passes

  set_writable : Writable v (machine m.registers set_memory) b
  unfolding machine
  set_writable =
      record {
        memory_allowed = let z = table_keeps_size m.memory m.registers.dbr rows in let k = h.memory_allowed in omega arith;
        words_fit = set_memory_fits;
        a_fits = h.a_fits;
        eight_prs = h.eight_prs;
        passes = set_memory_passes;
        budget_fits = h.budget_fits;
      }

  set_image_written : image_bracketed rows (loaded v m b) ≡ written_image v (machine m.registers set_memory) b
  unfolding image_bracketed bracketed_text
  set_image_written = rw (eq-eqb (set_brackets m.memory m.registers.dbr rows).answer 0 (answered m.memory m.registers.dbr rows ∙ e))

pub bracketed_loads : BracketedLoads
bracketed_loads v m b rows h e =
    ap image (set_image_written v m b rows h e) ∙ written_loads v _ b (set_writable v m b rows h e)
