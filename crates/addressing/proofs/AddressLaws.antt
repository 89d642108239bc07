-- TPR of a pointer word, the ring where it leads and the first address, one law for each answer, from facts as the code's tests and callees give them. Assumes nothing.
use mathlib.Core.Path.{◌≡◌, refl, sym, ap, ◌∙◌, subst}
use mathlib.Core.Bool.{Bool, true, false, not}
use mathlib.Core.List.{List}
use Prim.Native.Nat.{ℕ, ◌≤◌, max}
use native.Mathlib.Omega.{arith}
use borrow.Author.Tests.{not-true, not-false}
use Rattle.model.specs.Words as Words
use Rattle.model.specs.Words.{Pointer, pointer_in, Instruction}
use Rattle.model.specs.Registers.{Dbr, Registers, zero_pointer, pr, moved_by, with_ring_at_least}
use Rattle.model.specs.Questions.{all, pointer_in_range}
use Rattle.model.specs.Step.{first_address, next_address}
use Rattle.model.proofs.WordLaws.{Within, in_range_within}
use Rattle.model.proofs.ListLaws.{all_get}
use Rattle.state.specs.View.{as_pointers, pr_of}
use Rattle.addressing.specs.Address.{tpr_of}

-- A POINTER WORD AND A RING
pub tpr_same : (w k n s i : ℕ) → ◌≡◌ {A = Pointer} (record { ring = n; segment = s; word = i }) (pointer_in w) →
    ◌≡◌ {A = Pointer} (record { ring = k; segment = s; word = i }) (tpr_of w k)
unfolding tpr_of
tpr_same w k n s i e = ap (λ (p : Pointer). record { ring = k; segment = p.segment; word = p.word }) e

-- the ring where a pointer word leads
pub next_ring_same : (t : Pointer) (d : Words.Descriptor) (w l k n s i r : ℕ) → ◌≡◌ {A = Pointer} (record { ring = n; segment = s; word = i }) (pointer_in w) →
    r ≡ d.r1 → l ≡ max t.ring r → k ≡ max l n → k ≡ (next_address t d w).ring
unfolding next_address with_ring_at_least
next_ring_same t d w l k n s i r e h f g = rw (g, f, h) (ap (λ (p : Pointer). max (max t.ring d.r1) p.ring) e)

pub larger_within : (k x y z : ℕ) → k ≡ max x y → x ≤ z → y ≤ z → k ≤ z
larger_within k x y z e f g = omega arith

pub ruleset rings = (next_ring_same, larger_within)

-- THE FIRST ADDRESS
module _ (i : Instruction) (b : Bool) (n : ℕ) (e : b ≡ i.p) (f : n ≡ i.offset) (q : Pointer) where
  pub first_address_by_ipr : (r : Registers) → not b ≡ true → q ≡ moved_by n r.ipr → q ≡ first_address i r
  unfolding first_address
  first_address_by_ipr r v g = g ∙ simp (← e, ← f, not-true b v)

  pub first_address_by_pr : (a : ℕ) (d : Dbr) (ipr : Pointer) (prs : List ℕ) (k l x y z : ℕ) → not b ≡ false → k ≡ i.prnum →
      ◌≡◌ {A = Pointer} (record { ring = x; segment = y; word = z }) (pr_of prs k) → l ≡ max ipr.ring x →
      q ≡ moved_by n (record { ring = l; segment = y; word = z }) →
      q ≡ first_address i (record { a = a; dbr = d; ipr = ipr; prs = as_pointers prs })
  unfolding first_address pr with_ring_at_least pr_of
  first_address_by_pr a d ipr prs k l x y z v h o j g =
      let from_pr = ap (λ p. moved_by n (with_ring_at_least ipr.ring p)) o in
      g ∙ simp (j, ← e, ← f, ← h, not-false b v) from_pr

-- its bounds: a PR is in range by 2
module _ (prs : List ℕ) (k x y z : ℕ) (e : ◌≡◌ {A = Pointer} (record { ring = x; segment = y; word = z }) (pr_of prs k)) (h : all pointer_in_range (as_pointers prs) ≡ true) where
  pr_within : Within (record { ring = x; segment = y; word = z })
  unfolding pr_of pointer_in_range
  pr_within = subst Within (sym e) (in_range_within _ (all_get pointer_in_range (as_pointers prs) k zero_pointer h refl))

  pub pr_ring_within : x ≤ 7
  pr_ring_within = pr_within.ring_within

  pub pr_segment_within : y ≤ 4095
  pr_segment_within = pr_within.segment_within

  pub pr_word_within : z ≤ 65535
  pr_word_within = pr_within.word_within

module _ (p : Pointer) (w n s i : ℕ) (e : ◌≡◌ {A = Pointer} (record { ring = n; segment = s; word = i }) (moved_by w p)) where
  pub moved_ring_within : p.ring ≤ 7 → n ≤ 7
  unfolding moved_by
  moved_ring_within h = let f : n ≡ p.ring = ap (λ (p : Pointer). p.ring) e in omega arith

  pub moved_segment_within : p.segment ≤ 4095 → s ≤ 4095
  unfolding moved_by
  moved_segment_within h = let f : s ≡ p.segment = ap (λ (p : Pointer). p.segment) e in omega arith

  pub moved_word_within : i ≤ 65535
  unfolding moved_by
  moved_word_within = let f : i ≡ (moved_by w p).word = ap (λ (p : Pointer). p.word) e in omega arith

pub ruleset prs_within = (pr_ring_within, pr_segment_within, pr_word_within)

pub ruleset firsts = (first_address_by_ipr, first_address_by_pr, moved_ring_within, moved_segment_within, moved_word_within, prs_within, larger_within)
