-- Each hypothesis of demand 3 is needed: without it the other four hold of two small memories, and A tells them apart. Assumes nothing.
use mathlib.Core.Path.{◌≡◌, refl, sym, ◌∙◌, ap}
use mathlib.Core.List.{List, [], ◌∷◌}
use Prim.Native.Nat.{ℕ, ◌≤◌}
use native.Mathlib.Omega.{arith}
use lib.Dec.{lit≤}
use Rattle.model.specs.Registers.{Registers, no_delivery, machine}
use Rattle.model.specs.Run.{after, stretch}
use Rattle.model.proofs.Computing.{by_computation}
use Rattle.secrecy.specs.Statement.{Alike}
use Rattle.secrecy.specs.Needed.{registers_in, WithoutRingFrom1, memory_with_dbr_word, registers_in_ring_0, WithoutStartInRing, memory_for_ring, WithoutSameLength, registers_in_ring_4, memory_and, WithoutAgreement, WithoutUnwritableDescriptors, memory_with_open_descriptors}
use Rattle.secrecy.proofs.ByComputation.{differs, agree_by_test, unwritable_by_test}

-- two values of A within the stretch
told_apart : (n b : ℕ) (r : Registers) (m k : List ℕ) (j x y : ℕ) → j ≤ stretch no_delivery n b (machine r m) → (after no_delivery j (machine r m)).registers.a ≡ x →
    (after no_delivery j (machine r k)).registers.a ≡ y → (x ≡ y → ⊥) → Alike no_delivery n b r m k → ⊥
told_apart n b r m k j x y h p q d alike = d (sym p ∙ ap (λ r. r.a) (alike.same_registers j h) ∙ q)

-- after two steps
pub ring_from_1_needed : WithoutRingFrom1 → ⊥
unfolding by_computation registers_in differs registers_in_ring_0 memory_with_dbr_word
ring_from_1_needed hold =
    let r = registers_in_ring_0 in
    let m = memory_with_dbr_word 7 in
    let k = memory_with_dbr_word 8 in
    told_apart 0 2 r m k 2 7 8 (lit≤ tt) refl refl (omega arith)
    (hold no_delivery 0 2 r m k (lit≤ tt) refl (agree_by_test 0 (machine r m) m k 7 (lit≤ tt) (lit≤ tt) refl) (unwritable_by_test 0 (machine r m) refl))

-- after one
pub start_in_ring_needed : WithoutStartInRing → ⊥
unfolding by_computation registers_in differs registers_in_ring_0 memory_for_ring
start_in_ring_needed hold =
    let r = registers_in_ring_0 in
    let m = memory_for_ring 0 7 in
    let k = memory_for_ring 0 8 in
    told_apart 1 1 r m k 1 7 8 (lit≤ tt) refl refl (omega arith)
    (hold no_delivery 1 1 r m k (lit≤ tt) refl (agree_by_test 1 (machine r m) m k 3 (lit≤ tt) (lit≤ tt) refl) (unwritable_by_test 1 (machine r m) refl))

-- after one, which is a fault in the shorter memory
pub same_length_needed : WithoutSameLength → ⊥
unfolding by_computation registers_in differs registers_in_ring_4 memory_and
same_length_needed hold =
    let r = registers_in_ring_4 2 in
    let m = memory_and [] in
    let k = memory_and (8 ∷ []) in
    told_apart 4 1 r m k 1 0 8 (lit≤ tt) refl refl (omega arith)
    (hold no_delivery 4 1 r m k (lit≤ tt) (lit≤ tt) (agree_by_test 4 (machine r m) m k 4 (lit≤ tt) (lit≤ tt) refl) (unwritable_by_test 4 (machine r m) refl))

-- after one
pub agreement_needed : WithoutAgreement → ⊥
unfolding by_computation registers_in registers_in_ring_4 memory_for_ring
agreement_needed hold =
    let r = registers_in_ring_4 1 in
    let m = memory_for_ring 4 7 in
    let k = memory_for_ring 4 8 in
    told_apart 4 1 r m k 1 7 8 (lit≤ tt) refl refl (omega arith)
    (hold no_delivery 4 1 r m k (lit≤ tt) (lit≤ tt) refl (unwritable_by_test 4 (machine r m) refl))

-- after three
pub unwritable_descriptors_needed : WithoutUnwritableDescriptors → ⊥
unfolding by_computation registers_in differs registers_in_ring_4 memory_with_open_descriptors
unwritable_descriptors_needed hold =
    let r = registers_in_ring_4 3 in
    let m = memory_with_open_descriptors 7 in
    let k = memory_with_open_descriptors 8 in
    told_apart 4 3 r m k 3 7 8 (lit≤ tt) refl refl (omega arith)
    (hold no_delivery 4 3 r m k (lit≤ tt) (lit≤ tt) refl (agree_by_test 4 (machine r m) m k 8 (lit≤ tt) (lit≤ tt) refl))
