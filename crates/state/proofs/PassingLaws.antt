-- What 1 to 4 give of a core, its PRs and memory, where they pass. Assumes nothing.
use Rattle.std.proofs.Common.{◌≡◌, ℕ, ◌≤◌, true, leb, List, length, leb-true}
use Rattle.model.specs.Registers.{Delivery}
use Rattle.model.specs.Questions.{all, pointer_in_range, registers_in_range, dbr_fits, start_questions}
use Rattle.model.proofs.BranchLaws.{and_left, and_right}
use Rattle.model.proofs.WordLaws.{in_range_within}
use Rattle.model.proofs.QuestionLaws.{ask_yes}
use Rattle.words.specs.View.{as_pointer, PointerWithin}
use Rattle.words.specs.declared.pointer.Pointer.{Pointer}
use Rattle.state.specs.View.{as_pointers, as_machine, Ready}
use Rattle.state.specs.declared.Core.{Core}

pub pointer_passing : (p : Pointer) → pointer_in_range (as_pointer p) ≡ true → PointerWithin p
pointer_passing p e = let h = in_range_within _ e in record { ring_within = h.ring_within; segment_within = h.segment_within; word_within = h.word_within }

module _ (v : Delivery) (c : Core) (prs m : List ℕ) (e : start_questions v (as_machine c prs m) ≡ 0) where
  in_range : registers_in_range v (as_machine c prs m).registers ≡ true
  unfolding start_questions
  in_range = (ask_yes _ _ _ (ask_yes _ _ _ e).1).0

  fitting_dbr : dbr_fits (length m) (as_machine c prs m).registers.dbr ≡ true
  unfolding start_questions
  fitting_dbr = (ask_yes _ _ _ (ask_yes _ _ _ (ask_yes _ _ _ (ask_yes _ _ _ e).1).1).1).0

  pub ipr_passing : PointerWithin c.ipr
  unfolding registers_in_range
  ipr_passing = pointer_passing c.ipr (and_left (pointer_in_range (as_pointer c.ipr)) _ in_range)

  pub prs_in_range : all pointer_in_range (as_pointers prs) ≡ true
  unfolding registers_in_range
  prs_in_range = and_left (all pointer_in_range (as_pointers prs)) _ (and_right (pointer_in_range (as_pointer c.ipr)) _ in_range)

  pub address_passing : c.dbr.address ≤ 16777215
  unfolding registers_in_range
  address_passing =
      leb-true _ _
      (and_left (leb c.dbr.address 16777215) _ (and_right (all pointer_in_range (as_pointers prs)) _ (and_right (pointer_in_range (as_pointer c.ipr)) _ in_range)))

  pub length_passing : c.dbr.length ≤ 4096
  unfolding dbr_fits
  length_passing = leb-true _ _ (and_left (leb c.dbr.length 4096) _ fitting_dbr)

  pub ready_passing : Ready c m
  unfolding dbr_fits
  ready_passing =
      record {
        dbr_fits = leb-true _ _ (and_right (leb c.dbr.length 4096) _ fitting_dbr);
        ring_within = ipr_passing.ring_within;
        segment_within = ipr_passing.segment_within;
      }
