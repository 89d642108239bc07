-- Case 12: the laboratory's stretch ends with its call, and is the same whatever quantity stands in the formula's word. Assumes nothing.
use mathlib.Core.Path.{◌≡◌, refl}
use Prim.Native.Nat.{ℕ}
use lib.Dec.{lit≤}
use Rattle.model.specs.Registers.{no_delivery, machine}
use Rattle.model.specs.Cases.{case_12_registers, case_12_words, case_12}
use Rattle.model.specs.Run.{stretch}
use Rattle.model.proofs.Computing.{by_computation}
use Rattle.secrecy.specs.Example.{memory_with, FormulaStaysSecret}
use Rattle.secrecy.proofs.ByComputation.{differs, agree_by_test, unwritable_by_test}
use Rattle.secrecy.proofs.RingsHold.{rings_hold}

pub stretch_ends_with_call : (quantity : ℕ) → stretch no_delivery 4 9 (machine case_12_registers (memory_with quantity)) ≡ 2
unfolding by_computation case_12_registers case_12_words case_12 memory_with
stretch_ends_with_call q = refl

pub formula_stays_secret : FormulaStaysSecret
unfolding by_computation differs case_12_registers case_12_words case_12 memory_with
formula_stays_secret v b p q =
    rings_hold v 4 b case_12_registers (memory_with p) (memory_with q) (lit≤ tt) (lit≤ tt) refl
    (agree_by_test 4 (machine case_12_registers (memory_with p)) (memory_with p) (memory_with q) 64 (lit≤ tt) (lit≤ tt) refl)
    (unwritable_by_test 4 (machine case_12_registers (memory_with p)) refl)
