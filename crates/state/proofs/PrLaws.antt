-- The PRs as numbers: one read is one pointer's, and three stores are one set of the pointers. Assumes nothing.
use Rattle.std.proofs.Common.{◌≡◌, ℕ, zero, suc, ◌+◌, ◌*◌, ◌%◌, ◌<◌, ◌≤◌, Bool, true, false, cond, eqb, List, [], ◌∷◌, length, get_or, drop, set, sym, refl, ap, ◌∙◌, le_of_suc-le-suc, not-suc-le-zero, arith, get_or-set_other, get_or-set_same}
use Rattle.model.specs.Words.{Pointer}
use Rattle.model.specs.Registers.{zero_pointer}
use Rattle.model.specs.Step.{stack_base}
use Rattle.state.specs.View.{pointers_in, as_pointers, pr_of}

three_more : (k : ℕ) → 3 * suc k ≡ suc (suc (suc (3 * k)))
three_more k = omega arith

three_past : (k j : ℕ) → suc (suc (suc (3 * k + j))) ≡ 3 * suc k + j
three_past k j = omega arith

-- the pointer of three numbers
abbrev pointer_of_three : (r s w : ℕ) → Pointer
pointer_of_three r s w = record { ring = r % 256; segment = s; word = w }

past_three : (k : ℕ) (ns : List ℕ) → get_or (drop 3 ns) k 0 ≡ get_or ns (suc (suc (suc k))) 0
past_three k [] = refl
past_three k (x ∷ []) = refl
past_three k (x ∷ y ∷ []) = refl
past_three k (x ∷ y ∷ z ∷ ns) = refl

pointer_at : (n k : ℕ) (ns : List ℕ) (z : Pointer) → k < n → get_or (pointers_in n ns) k z ≡ pointer_of_three (get_or ns (3 * k) 0) (get_or ns (3 * k + 1) 0) (get_or ns (3 * k + 2) 0)
unfolding pointers_in
pointer_at zero k ns z h = absurd (not-suc-le-zero h)
pointer_at (suc n) zero ns z h = refl
pointer_at (suc n) (suc k) ns z h =
    pointer_at n k (drop 3 ns) z (le_of_suc-le-suc h)
    ∙ rw (past_three (3 * k) ns, past_three (3 * k + 1) ns, past_three (3 * k + 2) ns, ← (three_more k), three_past k 1, three_past k 2)

pub pr_law : (prs : List ℕ) (k r s w : ℕ) → r ≡ get_or prs (3 * k) 0 → s ≡ get_or prs (3 * k + 1) 0 → w ≡ get_or prs (3 * k + 2) 0 → k < 8 →
    record { ring = r % 256; segment = s; word = w } ≡ pr_of prs k
unfolding pr_of as_pointers
pr_law prs k r s w e f g h = rw (e, f, g) (sym (pointer_at 8 k prs zero_pointer h))

below_256 : (r : ℕ) → r ≤ 255 → r % 256 ≡ r
below_256 r h = omega arith

stored : (n k : ℕ) (ns : List ℕ) (r s w : ℕ) → k < n → 3 * n ≤ length ns → r ≤ 255 →
    pointers_in n (set (set (set ns (3 * k) r) (3 * k + 1) s) (3 * k + 2) w) ≡ set (pointers_in n ns) k (record { ring = r; segment = s; word = w })
unfolding pointers_in
stored zero k ns r s w h l g = absurd (not-suc-le-zero h)
stored (suc n) k [] r s w h l g = absurd (omega arith)
stored (suc n) k (x ∷ []) r s w h l g = absurd (omega arith)
stored (suc n) k (x ∷ y ∷ []) r s w h l g = absurd (omega arith)
stored (suc n) zero (x ∷ y ∷ z ∷ ns) r s w h l g = ap (λ b. record { ring = b; segment = s; word = w } ∷ pointers_in n ns) (below_256 r g)
stored (suc n) (suc k) (x ∷ y ∷ z ∷ ns) r s w h l g =
    rw (← (three_past k 1), ← (three_past k 2), three_more k) (ap (λ ps. record { ring = x % 256; segment = y; word = z } ∷ ps) (stored n k ns r s w (le_of_suc-le-suc h) (omega arith) g))

pub set_pr_law : (prs : List ℕ) (k r s w : ℕ) → k < 8 → length prs ≡ 24 → r ≤ 255 →
    as_pointers (set (set (set prs (3 * k) r) (3 * k + 1) s) (3 * k + 2) w) ≡ set (as_pointers prs) k (record { ring = r; segment = s; word = w })
unfolding as_pointers
set_pr_law prs k r s w h l g = stored 8 k prs r s w h (omega arith) g

-- THE STACK BASE
pub stack_base_law : (prs : List ℕ) (b n i v : ℕ) → length prs ≡ 24 → n ≤ 7 → i ≡ cond (eqb n b) 19 21 → v ≡ get_or (set prs 21 n) i 0 →
    as_pointers (set (set (set prs 21 n) 22 v) 23 0) ≡ set (as_pointers prs) 7 (stack_base b n (pr_of prs 6))
unfolding stack_base
stack_base_law prs b n i v l h e f =
    set_pr_law prs 7 n v 0 (omega arith) l (omega arith)
    ∙ ap (λ s. set (as_pointers prs) 7 (record { ring = n; segment = s; word = 0 })) (f ∙ ap (λ k. get_or (set prs 21 n) k 0) e ∙ copied (eqb n b))
  where
    copied : (c : Bool) → get_or (set prs 21 n) (cond c 19 21) 0 ≡ cond c (pr_of prs 6).segment n
    copied true = get_or-set_other prs 21 19 n 0 (λ z. omega arith) ∙ ap (λ (p : Pointer). p.segment) (pr_law prs 6 _ _ _ refl refl refl (omega arith))
    copied false = get_or-set_same prs 21 n 0 (omega arith)
