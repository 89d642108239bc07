-- RETURN raises each PR's ring: the loop's turns and its end, and the bounds of what a turn stores. Assumes nothing.
use mathlib.Core.Path.{◌≡◌, refl, ◌∙◌, ap}
use mathlib.Core.List.{List, [], ◌∷◌, map}
use Prim.Native.Nat.{ℕ, zero, suc, ◌+◌, ◌≤◌, max}
use native.Mathlib.Nat.{le_of_suc-le-suc, not-suc-le-zero}
use native.Mathlib.Numerals.{add-one}
use lib.ListN.{length, get_or, set}
use Rattle.model.specs.Words.{Pointer}
use Rattle.model.specs.Registers.{zero_pointer, with_ring_at_least}
use Rattle.state.specs.View.{pointers_in, as_pointers, pr_of}

-- the first `count` raised, the rest as they were
unfoldable pub raised_first : (ring count : ℕ) → List Pointer → List Pointer
raised_first n zero ps = ps
raised_first n (suc k) [] = []
raised_first n (suc k) (p ∷ ps) = with_ring_at_least n p ∷ raised_first n k ps

pub none_raised : (n : ℕ) (ps : List Pointer) → ps ≡ raised_first n 0 ps
unfolding raised_first
none_raised n ps = refl

raised_one_more : (n k : ℕ) (d : Pointer) (ps : List Pointer) →
    set (raised_first n k ps) k (with_ring_at_least n (get_or (raised_first n k ps) k d)) ≡ raised_first n (suc k) ps
unfolding raised_first
raised_one_more n zero d [] = refl
raised_one_more n zero d (p ∷ ps) = refl
raised_one_more n (suc k) d [] = refl
raised_one_more n (suc k) d (p ∷ ps) = ap (λ l. with_ring_at_least n p ∷ l) (raised_one_more n k d ps)

pub turn_raises : (n k r j s i : ℕ) (prs : List ℕ) (ps qs : List Pointer) → as_pointers prs ≡ raised_first n k ps →
    record { ring = j; segment = s; word = i } ≡ pr_of prs k → r ≡ max n j →
    qs ≡ set (as_pointers prs) k (record { ring = r; segment = s; word = i }) → qs ≡ raised_first n (k + 1) ps
unfolding with_ring_at_least pr_of
turn_raises n k r j s i prs ps qs e f g h =
    let v : record { ring = r; segment = s; word = i } ≡ with_ring_at_least n (get_or (as_pointers prs) k zero_pointer) =
    rw g (ap (with_ring_at_least n) f) in
    h ∙ rw (v, e, add-one) (raised_one_more n k zero_pointer ps)

raised_all : (n k : ℕ) (ps : List Pointer) → length ps ≤ k → raised_first n k ps ≡ map (with_ring_at_least n) ps
unfolding raised_first
raised_all n zero [] h = refl
raised_all n zero (p ∷ ps) h = absurd (not-suc-le-zero h)
raised_all n (suc k) [] h = refl
raised_all n (suc k) (p ∷ ps) h = ap (λ l. with_ring_at_least n p ∷ l) (raised_all n k ps (le_of_suc-le-suc h))

pub all_raised : (n k : ℕ) (prs : List ℕ) (qs : List Pointer) → qs ≡ raised_first n k (as_pointers prs) → 8 ≤ k → qs ≡ map (with_ring_at_least n) (as_pointers prs)
unfolding as_pointers pointers_in
all_raised n k prs qs f h = f ∙ raised_all n k (as_pointers prs) h

pub ruleset raises = (none_raised, turn_raises, all_raised)
