-- A descriptor word by its segment's row, and one word after another. Assumes nothing.
use Rattle.std.proofs.Common.{◌≡◌, refl, sym, ap, ◌∙◌, true, List, [], ℕ, suc, ◌+◌, ◌-◌, ◌*◌, ◌/◌, ◌%◌, ◌^◌, ◌≤◌, ◌<◌, arith, add-one, get_or, set}
use Rattle.model.specs.Questions.{all}
use Rattle.model.specs.Brackets.{Row, rows_of, row_fits, bracket_bits, with_brackets, by_row, with_rows}
use Rattle.model.proofs.BranchLaws.{and_left}
use Rattle.formats.proofs.BracketLaws.{row_within, all_rows_of, bracket_bits_within}
use Rattle.tables.specs.declared.row.Row as Lent
use Rattle.tables.specs.View.{as_row, as_rows}
use Rattle.tables.specs.Next.{RowAt}

-- A WORD BY ITS OWN ROW, whose bits are twelve
pub word_without_row : (s w : ℕ) (xs : List Lent.Row) → rows_of s (as_rows xs) ≡ [] → w ≡ by_row (rows_of s (as_rows xs)) w
unfolding by_row
word_without_row s w xs e = rw e refl

module _ (s i l n : ℕ) (xs : List Lent.Row) (d : Lent.Row) (own : RowAt s xs i) (e : n ≡ bracket_bits (as_row (get_or xs i d))) where
  pub own_row_fits : all (row_fits l) (as_rows xs) ≡ true → n ≤ 4095
  unfolding all
  own_row_fits fit =
      let f = and_left (row_fits l (as_row (get_or xs i d))) _ (ap (all (row_fits l)) (sym (own.its_rows d)) ∙ all_rows_of (row_fits l) s (as_rows xs) fit) in
      let h = bracket_bits_within l _ (row_within l _ f) in
      omega arith

  pub word_by_own_row : (w v : ℕ) → v ≡ w % 2 ^ 40 + 2 ^ 40 * n + 2 ^ 52 * (w / 2 ^ 52) → v ≡ by_row (rows_of s (as_rows xs)) w
  unfolding by_row with_brackets
  word_by_own_row w v q = rw (own.its_rows d, ← e) q

-- ONE WORD AFTER ANOTHER: what the segments still to come leave is what all leave
module _ (s l a : ℕ) (rows : List Row) (m z : List ℕ) (e : with_rows (l - s) s rows a m ≡ z) where
  pub word_put : (v : ℕ) → s < l → v ≡ by_row (rows_of s rows) (get_or m (a + s) 0) → with_rows (l - (s + 1)) (s + 1) rows a (set m (a + s) v) ≡ z
  unfolding with_rows
  word_put v h q =
      let k : l - s ≡ suc (l - (s + 1)) = omega arith in
      ap (λ x. with_rows (l - (s + 1)) (s + 1) rows a (set m (a + s) x)) q
      ∙ ap (λ x. with_rows (l - (s + 1)) x rows a (set m (a + s) (by_row (rows_of s rows) (get_or m (a + s) 0)))) (add-one s)
      ∙ sym (ap (λ x. with_rows x s rows a m) k) ∙ e

pub all_put : (s l a : ℕ) (rows : List Row) (m : List ℕ) → l ≤ s → with_rows (l - s) s rows a m ≡ m
unfolding with_rows
all_put s l a rows m h = let k : l - s ≡ 0 = omega arith in ap (λ x. with_rows x s rows a m) k
