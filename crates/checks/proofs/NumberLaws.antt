-- A verdict by its case: what it holds, and its numbers. Assumes nothing.
use mathlib.Core.Path.{◌≡◌, sym, ◌∙◌, ap, subst}
use Prim.Native.Nat.{ℕ, ◌≤◌}
use Rattle.model.specs.Registers.{zero_pointer}
use Rattle.model.specs.Answers.{check_numbers}
use Rattle.words.specs.View.{as_pointer, PointerWithin}
use Rattle.words.specs.declared.pointer.Pointer as Core
use Rattle.host.specs.Record.{pointer_of}
use Rattle.host.specs.declared.record.Pointer.{Pointer}
use Rattle.checks.specs.View.{as_check, VerdictWithin, as_numbers}
use Rattle.checks.specs.declared.Verdict.{Verdict}
use Rattle.checks.specs.declared.Verdict.TheVariants.{Refused, Fault, Passes}

module _ (v : Verdict) where
  pub pointer_within : (n : ℕ) (t : Core.Pointer) → v ≡ Fault n t → VerdictWithin v → PointerWithin t
  pointer_within n t e h = subst VerdictWithin e h

  pub ring_within : (r : ℕ) → v ≡ Passes r → VerdictWithin v → r ≤ 7
  ring_within r e h = subst VerdictWithin e h

  pub refused_numbers : (n : ℕ) (q : Pointer) → v ≡ Refused n → pointer_of q ≡ zero_pointer → as_numbers (record { kind = 0; number = n; ring = 0; pointer = q }) ≡ check_numbers (as_check v)
  unfolding check_numbers
  refused_numbers n q e z = ap (λ p. record { kind = 0; number = n; ring = 0; pointer = p }) z ∙ ap (λ x. check_numbers (as_check x)) (sym e)

  pub fault_numbers : (n : ℕ) (t : Core.Pointer) (q : Pointer) → v ≡ Fault n t → pointer_of q ≡ as_pointer t → as_numbers (record { kind = 3; number = n; ring = 0; pointer = q }) ≡ check_numbers (as_check v)
  unfolding check_numbers
  fault_numbers n t q e z = ap (λ p. record { kind = 3; number = n; ring = 0; pointer = p }) z ∙ ap (λ x. check_numbers (as_check x)) (sym e)

  pub passes_numbers : (r : ℕ) (q : Pointer) → v ≡ Passes r → pointer_of q ≡ zero_pointer → as_numbers (record { kind = 4; number = 0; ring = r; pointer = q }) ≡ check_numbers (as_check v)
  unfolding check_numbers
  passes_numbers r q e z = ap (λ p. record { kind = 4; number = 0; ring = r; pointer = p }) z ∙ ap (λ x. check_numbers (as_check x)) (sym e)
