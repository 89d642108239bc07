-- 53 to 55 asked of all rows, of a segment and segment by segment. Assumes nothing.
use Rattle.std.proofs.Common.{◌≡◌, ◌≢◌, refl, sym, ap, ◌∙◌, Bool, List, [], ℕ, zero, suc, ◌+◌, ◌-◌, ◌≤◌, ◌<◌, arith, add-one, length, drop}
use Rattle.std.specs.List.{list_all}
use borrow.Author.Tests.{le-leb, lt-leb}
use lib.Dec.{leb}
use lib.ListN.{length-map}
use Rattle.model.specs.Questions.{then_ask}
use Rattle.model.specs.Brackets.{Row, rows_of, row_fits, table_fits, one_row, segments_questions}
use Rattle.tables.specs.declared.error.TableError.{TableError}
use Rattle.tables.specs.declared.row.Row as Lent
use Rattle.tables.specs.View.{as_row, as_rows}
use Rattle.tables.specs.Next.{RowAt}
use Rattle.tables.specs.Numbers.{table_number}
use Rattle.tables.proofs.RowLaws.{all_as}

-- 53
pub fits_by_rows : (l : ℕ) (xs : List Lent.Row) (b : Bool) → length xs ≤ 32 → b ≡ list_all (λ x. row_fits l (as_row x)) xs → b ≡ table_fits l (as_rows xs)
unfolding table_fits
fits_by_rows l xs b h e = rw (length-map xs as_row, le-leb (length xs) 32 h) (e ∙ all_as (row_fits l) xs)

pub too_many_rows : (l : ℕ) (xs : List Lent.Row) → 32 < length xs → leb (length xs) 32 ≡ table_fits l (as_rows xs)
unfolding table_fits
too_many_rows l xs h = rw (length-map xs as_row, lt-leb (length xs) 32 h) refl

-- 54 AND 55 of a segment, by its first row and the next
module _ (s : ℕ) (xs : List Lent.Row) where
  pub no_own_row : rows_of s (as_rows xs) ≡ [] → 54 ≡ one_row (rows_of s (as_rows xs))
  unfolding one_row
  no_own_row e = rw e refl

  module _ (i : ℕ) (d : Lent.Row) (own : RowAt s xs i) where
    pub another_row : (j : ℕ) → RowAt s (drop (i + 1) xs) j → 55 ≡ one_row (rows_of s (as_rows xs))
    unfolding one_row
    another_row j other = rw (own.its_rows d, other.its_rows d) refl

    pub no_other_row : rows_of s (as_rows (drop (i + 1) xs)) ≡ [] → 0 ≡ one_row (rows_of s (as_rows xs))
    unfolding one_row
    no_other_row e = rw (own.its_rows d, e) refl

-- THE SEGMENTS from one on
pub error_number_not_0 : (e : TableError) → table_number e ≢ 0
error_number_not_0 TableError.MemoryTooLarge h = omega arith
error_number_not_0 TableError.BaseOutsideMemory h = omega arith
error_number_not_0 TableError.RowsUnfit h = omega arith
error_number_not_0 TableError.SegmentInNoRow h = omega arith
error_number_not_0 TableError.SegmentInSeveralRows h = omega arith

module _ (s l n : ℕ) (rows : List Row) (below : s < l) (z : segments_questions (l - s) s rows ≡ segments_questions l 0 rows) (q : n ≡ one_row (rows_of s rows)) where
  segment_in_front : segments_questions l 0 rows ≡ then_ask n (segments_questions (l - (s + 1)) (s + 1) rows)
  unfolding segments_questions
  segment_in_front =
      let e : l - s ≡ suc (l - (s + 1)) = omega arith in
      sym z ∙ ap (λ k. segments_questions k s rows) e ∙ ap (λ k. then_ask k (segments_questions (l - (s + 1)) (suc s) rows)) (sym q)
      ∙ ap (λ k. then_ask n (segments_questions (l - (s + 1)) k rows)) (sym (add-one s))

  by_answer : (k x : ℕ) → k ≢ 0 → then_ask k x ≡ k
  unfolding then_ask
  by_answer zero x d = absurd (d refl)
  by_answer (suc k) x d = refl

  pub segment_fails : n ≢ 0 → n ≡ segments_questions l 0 rows
  segment_fails d = sym (segment_in_front ∙ by_answer n _ d)

  pub segment_passes : n ≡ 0 → segments_questions (l - (s + 1)) (s + 1) rows ≡ segments_questions l 0 rows
  unfolding then_ask
  segment_passes e = sym (segment_in_front ∙ ap (λ k. then_ask k (segments_questions (l - (s + 1)) (s + 1) rows)) e)

pub segments_pass : (s l : ℕ) (rows : List Row) → l ≤ s → segments_questions (l - s) s rows ≡ segments_questions l 0 rows → 0 ≡ segments_questions l 0 rows
unfolding segments_questions
segments_pass s l rows h z = let e : l - s ≡ 0 = omega arith in sym (ap (λ k. segments_questions k s rows) e) ∙ z

pub ruleset segments_laws = (error_number_not_0, segment_fails, segment_passes, segments_pass)
