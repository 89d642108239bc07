-- Lent rows as the model's: a test of all, and the first that a segment is in. Assumes nothing.
use Rattle.std.proofs.Common.{◌≡◌, refl, ap, Bool, true, false, ◌&&◌, List, [], ◌∷◌, ℕ, suc, ◌+◌, ◌≤◌, ◌<◌, arith, add-one, length, get_or, drop}
use Rattle.std.proofs.lemmas.Bool.{cases_Bool}
use Rattle.std.specs.List.{list_all, position, position_or_len}
use Rattle.std.specs.Prelude.{Option}
use mathlib.Core.Logic.{⊎_elim}
use borrow.Author.Tests.{ltb-true, ltb-false}
use Rattle.model.specs.Questions.{all}
use Rattle.model.specs.Brackets as Brackets
use Rattle.model.proofs.BranchLaws.{cond_holds}
use Rattle.tables.specs.declared.row.Row.{Row}
use Rattle.tables.specs.View.{as_row, as_rows}
use Rattle.tables.specs.Next.{NextRow}

-- A TEST OF ALL
pub all_as : (f : Brackets.Row → Bool) (xs : List Row) → list_all (λ x. f (as_row x)) xs ≡ all f (as_rows xs)
unfolding all
all_as f [] = refl
all_as f (x ∷ xs) = ap (λ b. f (as_row x) && b) (all_as f xs)

-- THE FIRST ROW that a segment is in, by its place
module _ (s : ℕ) where
  no_row : (xs : List Row) → length xs ≤ position_or_len (λ x. Brackets.in_row s (as_row x)) xs → Brackets.rows_of s (as_rows xs) ≡ []
  unfolding Brackets.rows_of
  no_row [] e = refl
  no_row (x ∷ xs) e =
      ⊎_elim
      (λ (t : Brackets.in_row s (as_row x) ≡ true). absurd (let z : suc (length xs) ≤ 0 = rw t at e in omega arith))
      (λ (f : Brackets.in_row s (as_row x) ≡ false). rw f (no_row xs (let z : suc (length xs) ≤ 1 + (position_or_len (λ x. Brackets.in_row s (as_row x)) xs) = rw f at e in omega arith)))
      (cases_Bool (Brackets.in_row s (as_row x)))

  row_at : (xs : List Row) (d : Row) → position_or_len (λ x. Brackets.in_row s (as_row x)) xs < length xs →
      Brackets.rows_of s (as_rows xs) ≡ as_row (get_or xs (position_or_len (λ x. Brackets.in_row s (as_row x)) xs) d) ∷ Brackets.rows_of s (as_rows (drop (suc (position_or_len (λ x. Brackets.in_row s (as_row x)) xs)) xs))
  unfolding Brackets.rows_of
  row_at [] d h = absurd (omega arith)
  row_at (x ∷ xs) d h =
      ⊎_elim
      (λ (t : Brackets.in_row s (as_row x) ≡ true). rw t refl)
      (λ (f : Brackets.in_row s (as_row x) ≡ false).
      let e : 1 + position_or_len (λ x. Brackets.in_row s (as_row x)) xs ≡ suc (position_or_len (λ x. Brackets.in_row s (as_row x)) xs) = omega arith in
      rw (f, e) (row_at xs d (let z : 1 + position_or_len (λ x. Brackets.in_row s (as_row x)) xs < suc (length xs) = rw f at h in omega arith)))
      (cases_Bool (Brackets.in_row s (as_row x)))

  pub first_row : (xs : List Row) (place : Option ℕ) → place ≡ position (λ x. Brackets.in_row s (as_row x)) xs → NextRow s xs place
  first_row xs place e =
      rw e
      (cond_holds (NextRow s xs) _
      (λ t. record { within = ltb-true _ _ t; its_rows = λ d. rw (add-one (position_or_len (λ x. Brackets.in_row s (as_row x)) xs)) (row_at xs d (ltb-true _ _ t)) })
      (λ f. no_row xs (ltb-false _ _ f)))
