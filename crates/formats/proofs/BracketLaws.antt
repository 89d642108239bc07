-- What a table that is accepted says of each segment and each word. Assumes nothing.
use mathlib.Core.Path.{◌≡◌, refl, sym, ap, ◌∙◌}
use mathlib.Core.Bool.{Bool, true, false, ◌&&◌, cond}
use mathlib.Core.List.{List, [], ◌∷◌}
use Prim.Native.Nat.{ℕ, zero, suc, ◌+◌, ◌*◌, ◌/◌, ◌%◌, ◌^◌, ◌≤◌, ◌<◌}
use native.Mathlib.Omega.{arith}
use lib.Dec.{leb, ltb, eqb}
use lib.ListN.{length, get_or, set, length-set}
use lib.Seq.{get_or-set_same, get_or-set_other}
use borrow.Author.Tests.{leb-true, ltb-true, eq-eqb, ne_eqb}
use Rattle.model.specs.Registers.{Dbr}
use Rattle.model.specs.Questions.{all, dbr_fits}
use Rattle.model.specs.Brackets.{Row, in_row, rows_of, row_fits, table_fits, one_row, segments_questions, table_questions, flag_bit, bracket_bits, with_brackets, by_row, with_rows, set_brackets}
use Rattle.model.proofs.BranchLaws.{by_equality, cond_holds, and_left, and_right, and_both}
use Rattle.model.proofs.QuestionLaws.{ask_yes, then_ask_yes}

-- A ROW that fits
pub record RowWithin (l : ℕ) (r : Row) : Type 0 where
  pub in_order : r.first ≤ r.last
  pub last_within : r.last < l
  pub r1_within : r.r1 ≤ r.r2
  pub r2_within : r.r2 ≤ r.r3
  pub r3_within : r.r3 ≤ 7

pub row_within : (l : ℕ) (r : Row) → row_fits l r ≡ true → RowWithin l r
unfolding row_fits
row_within l r e =
    let f = leb r.first r.last in
    let g = ltb r.last l in
    let x = leb r.r1 r.r2 in
    let y = leb r.r2 r.r3 in
    let z = leb r.r3 7 in
    let e₁ = and_right f (g && (x && (y && z))) e in
    let e₂ = and_right g (x && (y && z)) e₁ in
    let e₃ = and_right x (y && z) e₂ in
    record {
      in_order = leb-true _ _ (and_left f (g && (x && (y && z))) e);
      last_within = ltb-true _ _ (and_left g (x && (y && z)) e₁);
      r1_within = leb-true _ _ (and_left x (y && z) e₂);
      r2_within = leb-true _ _ (and_left y z e₃);
      r3_within = leb-true _ _ (and_right y z e₃);
    }

-- THE ROWS OF A SEGMENT are rows of the table
pub all_rows_of : (f : Row → Bool) (s : ℕ) (rows : List Row) → all f rows ≡ true → all f (rows_of s rows) ≡ true
unfolding all rows_of
all_rows_of f s [] e = refl
all_rows_of f s (r ∷ rs) e =
    let rest = all_rows_of f s rs (and_right (f r) (all f rs) e) in
    cond_holds (λ xs. all f xs ≡ true) (in_row s r) (λ _. and_both (f r) (all f (rows_of s rs)) (and_left (f r) (all f rs) e) rest) (λ _. rest)

-- ONE ROW where 54 and 55 have a yes
pub record OnlyRow (rows : List Row) : Type 0 where
  pub row : Row
  pub only : rows ≡ row ∷ []

pub one_row_only : (rows : List Row) → one_row rows ≡ 0 → OnlyRow rows
unfolding one_row
one_row_only [] e = absurd (let z : 54 ≡ 0 = e in omega arith)
one_row_only (r ∷ []) e = record { row = r; only = refl }
one_row_only (r ∷ q ∷ rs) e = absurd (let z : 55 ≡ 0 = e in omega arith)

pub each_segment_passes : (n s : ℕ) (rows : List Row) → segments_questions n s rows ≡ 0 → (t : ℕ) → s ≤ t → t < s + n → one_row (rows_of t rows) ≡ 0
unfolding segments_questions
each_segment_passes zero s rows e t h g = absurd (omega arith)
each_segment_passes (suc n) s rows e t h g =
    let passed = then_ask_yes (one_row (rows_of s rows)) (segments_questions n (suc s) rows) e in
    by_equality s t (λ q. ap (λ z. one_row (rows_of z rows)) (sym q) ∙ passed.0)
    (λ d. each_segment_passes n (suc s) rows passed.1 t (omega arith) (omega arith))

-- THE QUESTIONS, all answered yes
pub record Accepted (size : ℕ) (b : Dbr) (rows : List Row) : Type 0 where
  pub within_memory : b.address + b.length ≤ size
  pub rows_fit : all (row_fits b.length) rows ≡ true
  pub segments_pass : segments_questions b.length 0 rows ≡ 0

pub accepted : (n : ℕ) (b : Dbr) (rows : List Row) → table_questions n b rows ≡ 0 → Accepted n b rows
unfolding table_questions dbr_fits table_fits
accepted n b rows e =
    let x = ask_yes _ _ _ (ask_yes _ _ _ e).1 in
    let y = ask_yes _ _ _ x.1 in
    record {
      within_memory = leb-true _ _ (and_right (leb b.length 4096) _ x.0);
      rows_fit = and_right (leb (length rows) 32) _ y.0;
      segments_pass = y.1;
    }

-- A WORD by its row
pub flag_bit_within : (n : ℕ) → flag_bit n ≤ 1
unfolding flag_bit
flag_bit_within n = cond_holds (λ x. x ≤ 1) (eqb n 0) (λ _. omega arith) (λ _. omega arith)

pub bracket_bits_within : (l : ℕ) (r : Row) → RowWithin l r → bracket_bits r < 2 ^ 12
unfolding bracket_bits
bracket_bits_within l r h =
    let x = h.r1_within in
    let y = h.r2_within in
    let z = h.r3_within in
    omega (arith, flag_bit_within r.read, flag_bit_within r.write, flag_bit_within r.execute)

-- THE DESCRIPTORS one after another: each word by its own row, every other stays
pub length_with_rows : (n s : ℕ) (rows : List Row) (a : ℕ) (m : List ℕ) → length (with_rows n s rows a m) ≡ length m
unfolding with_rows
length_with_rows zero s rows a m = refl
length_with_rows (suc n) s rows a m = length_with_rows n (suc s) rows a _ ∙ length-set m (a + s) _

pub with_rows_other : (n s : ℕ) (rows : List Row) (a : ℕ) (m : List ℕ) (x : ℕ) → (a + s ≤ x → x < a + s + n → ⊥) → get_or (with_rows n s rows a m) x 0 ≡ get_or m x 0
unfolding with_rows
with_rows_other zero s rows a m x h = refl
with_rows_other (suc n) s rows a m x h =
    with_rows_other n (suc s) rows a _ x (λ p q. h (omega arith) (omega arith)) ∙ get_or-set_other m (a + s) x _ 0 (λ e. h (omega arith) (omega arith))

pub with_rows_own : (n s : ℕ) (rows : List Row) (a : ℕ) (m : List ℕ) (t : ℕ) → s ≤ t → t < s + n → a + s + n ≤ length m →
    get_or (with_rows n s rows a m) (a + t) 0 ≡ by_row (rows_of t rows) (get_or m (a + t) 0)
unfolding with_rows
with_rows_own zero s rows a m t h g k = absurd (omega arith)
with_rows_own (suc n) s rows a m t h g k =
    let v = by_row (rows_of s rows) (get_or m (a + s) 0) in
    by_equality s t
    (λ e. with_rows_other n (suc s) rows a _ (a + t) (λ p _. omega arith) ∙ ap (λ z. get_or (set m (a + s) v) (a + z) 0) (sym e)
    ∙ get_or-set_same m (a + s) v 0 (omega arith) ∙ ap (λ z. by_row (rows_of z rows) (get_or m (a + z) 0)) e)
    (λ d. with_rows_own n (suc s) rows a _ t (omega arith) (omega arith) (omega (arith, length-set m (a + s) v))
    ∙ ap (by_row (rows_of t rows)) (get_or-set_other m (a + s) (a + t) v 0 (λ e. d (omega arith))))

-- THE CALL, refused and accepted
pub refused_same : (m : List ℕ) (b : Dbr) (rows : List Row) → (table_questions (length m) b rows ≡ 0 → ⊥) → (set_brackets m b rows).memory ≡ m
unfolding set_brackets
refused_same m b rows h = rw (ne_eqb (table_questions (length m) b rows) 0 h)

pub accepted_written : (m : List ℕ) (b : Dbr) (rows : List Row) → table_questions (length m) b rows ≡ 0 →
    (set_brackets m b rows).memory ≡ with_rows b.length 0 rows b.address m
unfolding set_brackets
accepted_written m b rows e = rw (eq-eqb (table_questions (length m) b rows) 0 e)
