-- Registers that pass 2 to 4, and that each change a step makes keeps them so. Assumes nothing.
use mathlib.Core.Path.{◌≡◌, refl, sym, subst}
use mathlib.Core.Bool.{true}
use mathlib.Core.List.{List}
use Prim.Native.Nat.{ℕ, ◌≤◌}
use native.Mathlib.Omega.{arith}
use lib.Dec.{leb}
use lib.ListN.{length, length-set, length-map}
use borrow.Author.Tests.{leb-true, le-leb}
use Rattle.model.specs.Words.{Pointer}
use Rattle.model.specs.Registers.{Dbr, Registers, zero_pointer, pr, with_a, with_dbr, with_ipr, with_prs, with_pr, moved_by, with_ring_at_least, advanced}
use Rattle.model.specs.Questions.{all, pointer_in_range, rings_at_least, dbr_fits}
use Rattle.model.specs.Step.{returned}
use Rattle.model.proofs.ListLaws.{all_set, all_get, all_map, all_from}
use Rattle.model.proofs.WordLaws.{Within, in_range_within, within_in_range}

pub record PointersFit (C : ℕ → Type 0) (ipr : Pointer) (prs : List Pointer) : Type 0 where
  pub ipr_within : Within ipr
  pub prs_in_range : all pointer_in_range prs ≡ true
  pub rings_kept : rings_at_least ipr.ring prs ≡ true
  pub prs_count : C (length prs)

pub record DbrFit (size : ℕ) (d : Dbr) : Type 0 where
  pub address_within : d.address ≤ 16777215
  pub fits : dbr_fits size d ≡ true

-- for a memory of that size, with what W says of A and C of the number of PRs
pub record Fit (W C : ℕ → Type 0) (size : ℕ) (r : Registers) : Type 0 where
  pub a_has : W r.a
  pub dbr_fit : DbrFit size r.dbr
  pub pointers_fit : PointersFit C r.ipr r.prs

-- TPR is in range, and in no lower ring than IPR
pub record Formed (r : Registers) (t : Pointer) : Type 0 where
  pub within : Within t
  pub ring_at_least : r.ipr.ring ≤ t.ring

-- POINTERS
pub moved_within : (n : ℕ) (p : Pointer) → Within p → Within (moved_by n p)
unfolding moved_by
moved_within n p h = record { ring_within = h.ring_within; segment_within = h.segment_within; word_within = omega arith }

pub raised_within : (n : ℕ) (p : Pointer) → n ≤ 7 → Within p → Within (with_ring_at_least n p)
unfolding with_ring_at_least
raised_within n p g h =
    let x = h.ring_within in record { ring_within = omega arith; segment_within = h.segment_within; word_within = h.word_within }

-- REGISTERS
module _ {W C : ℕ → Type 0} {n : ℕ} {r : Registers} (h : Fit W C n r) where
  pub pr_within : (k : ℕ) → Within (pr r k)
  unfolding pr pointer_in_range
  pr_within k = in_range_within _ (all_get pointer_in_range r.prs k zero_pointer h.pointers_fit.prs_in_range refl)

  pub fit_with_a : (v : ℕ) → W v → Fit W C n (with_a v r)
  unfolding with_a
  fit_with_a v e = record { a_has = e; dbr_fit = h.dbr_fit; pointers_fit = h.pointers_fit }

  pub fit_with_dbr : (d : Dbr) → DbrFit n d → Fit W C n (with_dbr d r)
  unfolding with_dbr
  fit_with_dbr d e = record { a_has = h.a_has; dbr_fit = e; pointers_fit = h.pointers_fit }

  -- control moves to t
  pub fit_with_ipr : (t : Pointer) → Within t → rings_at_least t.ring r.prs ≡ true → Fit W C n (with_ipr t r)
  unfolding with_ipr
  fit_with_ipr t g e =
      let p = h.pointers_fit in
      record {
        a_has = h.a_has;
        dbr_fit = h.dbr_fit;
        pointers_fit = record { ipr_within = g; prs_in_range = p.prs_in_range; rings_kept = e; prs_count = p.prs_count };
      }

  pub fit_advanced : Fit W C n (advanced r)
  unfolding advanced moved_by
  fit_advanced = fit_with_ipr (moved_by 1 r.ipr) (moved_within 1 r.ipr h.pointers_fit.ipr_within) h.pointers_fit.rings_kept

  pub rings_at_least_lower : (k : ℕ) → k ≤ r.ipr.ring → rings_at_least k r.prs ≡ true
  unfolding rings_at_least
  rings_at_least_lower k g =
      all_from (λ p. leb k p.ring) (λ p. leb r.ipr.ring p.ring)
      (λ p e. let x = leb-true r.ipr.ring p.ring e in omega (arith, le-leb)) r.prs h.pointers_fit.rings_kept

  -- a PR becomes p, in no lower ring than q, which IPR becomes at once; IPR's ring does not rise
  pub fit_called : (k : ℕ) (p q : Pointer) → Within p → Within q → q.ring ≤ p.ring → q.ring ≤ r.ipr.ring → Fit W C n (with_ipr q (with_pr k p r))
  unfolding with_pr with_prs with_ipr rings_at_least
  fit_called k p q g f l e =
      let ps = h.pointers_fit in
      record {
        a_has = h.a_has;
        dbr_fit = h.dbr_fit;
        pointers_fit =
            record {
              ipr_within = f;
              prs_in_range = all_set pointer_in_range r.prs k p ps.prs_in_range (within_in_range p g);
              rings_kept = all_set (λ x. leb q.ring x.ring) r.prs k p (rings_at_least_lower q.ring e) (le-leb _ _ l);
              prs_count = subst C (sym (length-set r.prs k p)) ps.prs_count;
            };
      }

  pub fit_with_pr : (k : ℕ) (t : Pointer) → Formed r t → Fit W C n (with_pr k t r)
  unfolding with_pr with_prs with_ipr
  fit_with_pr k t g = fit_called k t r.ipr g.within h.pointers_fit.ipr_within g.ring_at_least (omega arith)

  pub fit_returned : (t : Pointer) → Within t → Fit W C n (returned t r)
  unfolding returned with_prs with_ipr rings_at_least with_ring_at_least
  fit_returned t g =
      let ps = h.pointers_fit in
      record {
        a_has = h.a_has;
        dbr_fit = h.dbr_fit;
        pointers_fit =
            record {
              ipr_within = g;
              prs_in_range =
                  all_map pointer_in_range pointer_in_range (with_ring_at_least t.ring)
                  (λ p e. within_in_range _ (raised_within t.ring p g.ring_within (in_range_within p e))) r.prs ps.prs_in_range;
              rings_kept =
                  all_map (λ x. leb t.ring x.ring) pointer_in_range (with_ring_at_least t.ring)
                  (λ p e. omega (arith, le-leb)) r.prs ps.prs_in_range;
              prs_count = subst C (sym (length-map r.prs (with_ring_at_least t.ring))) ps.prs_count;
            };
      }
