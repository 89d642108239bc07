-- The effective ring is never below IPR's. Assumes nothing.
use Prim.Native.Nat.{ℕ, ◌≤◌}
use native.Mathlib.Omega.{arith}
use Rattle.model.specs.Words.{Descriptor, Pointer, Instruction}
use Rattle.model.specs.Registers.{Registers, moved_by, with_ring_at_least}
use Rattle.model.specs.Step.{first_address, next_address}
use Rattle.model.proofs.BranchLaws.{cond_holds}

pub first_address_ring : (n : ℕ) (i : Instruction) (r : Registers) → n ≤ r.ipr.ring → n ≤ (first_address i r).ring
unfolding first_address moved_by with_ring_at_least
first_address_ring n i r h = cond_holds (λ (t : Pointer). n ≤ t.ring) i.p (λ _. omega arith) (λ _. h)

pub next_address_ring : (n : ℕ) (t : Pointer) (d : Descriptor) (w : ℕ) → n ≤ t.ring → n ≤ (next_address t d w).ring
unfolding next_address with_ring_at_least
next_address_ring n t d w h = omega arith
