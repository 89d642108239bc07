-- The first question with a no, and what a yes to all lets be written. Assumes nothing.
use Rattle.std.proofs.Common.{◌≡◌, ◌≢◌, refl, sym, ◌∙◌, true, false, List, ℕ, ◌+◌, ◌≤◌, ◌<◌, length}
use borrow.Author.Tests.{le-leb, lt-leb}
use Rattle.model.specs.Questions.{ask, all, memory_fits, dbr_fits}
use Rattle.model.specs.Brackets.{Row, row_fits, table_fits, segments_questions, table_questions, with_rows, set_brackets}
use Rattle.formats.proofs.BracketLaws.{accepted, refused_same, accepted_written}
use Rattle.tables.specs.View.{base}

-- IN ORDER
module _ (n a l : ℕ) (rows : List Row) where
  pub is_1 : 16777216 < n → 1 ≡ table_questions n (base a l) rows
  unfolding table_questions ask memory_fits
  is_1 h = rw (lt-leb n 16777216 h) refl

  module _ (memory : n ≤ 16777216) where
    pub is_4_by_length : 4096 < l → 4 ≡ table_questions n (base a l) rows
    unfolding table_questions ask memory_fits dbr_fits
    is_4_by_length h = rw (le-leb n 16777216 memory, lt-leb l 4096 h) refl

    module _ (count : l ≤ 4096) where
      pub is_4 : n < a + l → 4 ≡ table_questions n (base a l) rows
      unfolding table_questions ask memory_fits dbr_fits
      is_4 h = rw (le-leb n 16777216 memory, le-leb l 4096 count, lt-leb (a + l) n h) refl

      module _ (within : a + l ≤ n) where
        pub is_53 : false ≡ table_fits l rows → 53 ≡ table_questions n (base a l) rows
        unfolding table_questions ask memory_fits dbr_fits
        is_53 e = rw (le-leb n 16777216 memory, le-leb l 4096 count, le-leb (a + l) n within, ← e) refl

        pub is_by_segment : (k : ℕ) → true ≡ table_fits l rows → k ≡ segments_questions l 0 rows → k ≡ table_questions n (base a l) rows
        unfolding table_questions ask memory_fits dbr_fits
        is_by_segment k e q = rw (le-leb n 16777216 memory, le-leb l 4096 count, le-leb (a + l) n within, ← e) q

pub ruleset answer_laws = (is_1, is_4_by_length, is_4, is_53, is_by_segment)

-- REFUSED: nothing is written. Accepted: the rows fit, and so do the words
module _ (n a l : ℕ) (rows : List Row) (m : List ℕ) (e : n ≡ table_questions (length m) (base a l) rows) where
  pub answer_given : n ≡ (set_brackets m (base a l) rows).answer
  unfolding set_brackets
  answer_given = e

  pub refused_kept : n ≢ 0 → m ≡ (set_brackets m (base a l) rows).memory
  refused_kept d = sym (refused_same m (base a l) rows (λ z. d (e ∙ z)))

  module _ (z : n ≡ 0) where
    pub segment_within : a + l ≤ length m
    segment_within = (accepted (length m) (base a l) rows (sym e ∙ z)).within_memory

    pub rows_fit : all (row_fits l) rows ≡ true
    rows_fit = (accepted (length m) (base a l) rows (sym e ∙ z)).rows_fit

    pub zero_given : 0 ≡ (set_brackets m (base a l) rows).answer
    unfolding set_brackets
    zero_given = sym (sym e ∙ z)

    pub accepted_put : (k : List ℕ) → k ≡ with_rows l 0 rows a m → k ≡ (set_brackets m (base a l) rows).memory
    accepted_put k q = q ∙ sym (accepted_written m (base a l) rows (sym e ∙ z))

pub ruleset set_laws = (answer_given, refused_kept, segment_within, rows_fit, zero_given, accepted_put)
