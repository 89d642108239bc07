-- CALL's check, from its questions: refused, a fault or the new ring. Assumes nothing.
use mathlib.Core.Path.{◌≡◌, refl, sym, ◌∙◌, ap}
use mathlib.Core.Bool.{true}
use mathlib.Core.List.{List}
use Prim.Native.Nat.{ℕ, zero, suc, ◌+◌, ◌≤◌, max}
use native.Mathlib.Omega.{arith}
use lib.ListN.{length}
use Rattle.model.specs.Words as Words
use Rattle.model.specs.Registers.{Machine, with_ring_at_least}
use Rattle.model.specs.Questions.{pointer_in_range, start_questions}
use Rattle.model.specs.Run.{unless_refused}
use Rattle.model.specs.Check as Check
use Rattle.model.proofs.QuestionLaws.{ask_yes}
use Rattle.words.specs.View.{as_pointer, PointerWithin}
use Rattle.words.specs.declared.pointer.Pointer.{Pointer}
use Rattle.state.specs.View.{as_machine}
use Rattle.state.specs.declared.Core.{Core}
use Rattle.state.proofs.PassingLaws.{pointer_passing, ipr_passing, ready_passing}
use Rattle.host.specs.Record.{machine_of, delivery_of, Converted}
use Rattle.host.specs.declared.record.Registers.{Registers}
use Rattle.control.specs.Call.{CheckedBy}
use Rattle.control.specs.declared.Entry.{Entry}
use Rattle.questions.specs.declared.fault.Fault.{Fault}
use Rattle.questions.specs.declared.start.StartError.{StartError}
use Rattle.questions.specs.Numbers.{fault_number, start_number}
use Rattle.std.proofs.Common.{Result, Ok, Err}
use Rattle.control.proofs.MoveLaws.{check_faults, check_passes}

-- no refused start's number is 0, which is a yes
pub start_from_one : (e : StartError) → 1 ≤ start_number e
start_from_one StartError.MemoryTooLarge = omega arith
start_from_one e = omega arith

-- the pointer's ring raised
module _ (p : Pointer) (n k : ℕ) (e : k ≡ max n p.ring) where
  pub raised_same : ◌≡◌ {A = Words.Pointer} (record { ring = k; segment = p.segment.0; word = p.word.0 }) (with_ring_at_least n (as_pointer p))
  unfolding with_ring_at_least
  raised_same = ap (λ l. record { ring = l; segment = p.segment.0; word = p.word.0 }) e

  pub raised_within : PointerWithin p → n ≤ 7 → k ≤ 7
  raised_within w h = let low = w.ring_within in omega arith

module _ (r : Registers) (c : Core) (w : Converted r c) (memory : List ℕ) (p : Pointer) (n : ℕ)
    (e : n ≡ Check.check_questions (delivery_of r) (as_machine c r.prs memory) (as_pointer p)) where
  abbrev m : Machine
  m = as_machine c r.prs memory

  -- the record's machine is the core's
  of_record : Check.check (delivery_of r) m (as_pointer p) ≡ Check.check (delivery_of r) (machine_of r memory) (as_pointer p)
  of_record = ap (λ g. Check.check (delivery_of r) (record { registers = g; memory = memory }) (as_pointer p)) w.same

  pub says_refused : (n ≡ 0 → ⊥) → Check.refused n ≡ Check.check (delivery_of r) (machine_of r memory) (as_pointer p)
  unfolding Check.check unless_refused
  says_refused h = by_number n e h ∙ of_record
    where
      by_number : (k : ℕ) → k ≡ Check.check_questions (delivery_of r) m (as_pointer p) → (k ≡ 0 → ⊥) → Check.refused k ≡ Check.check (delivery_of r) m (as_pointer p)
      by_number zero e h = absurd (h refl)
      by_number (suc k) e h = ap (λ a. unless_refused a Check.refused (Check.checked m (with_ring_at_least c.ipr.ring (as_pointer p)))) e

  module _ (z : n ≡ 0) where
    asked : (pointer_in_range (as_pointer p) ≡ true) × (start_questions (delivery_of r) m ≡ 0)
    unfolding Check.check_questions
    asked = ask_yes _ _ _ (ask_yes _ _ _ (sym e ∙ z)).1

    pub pointer_fits : PointerWithin p
    pointer_fits = pointer_passing p asked.0

    pub ring_fits : c.ipr.ring ≤ 7
    ring_fits = (ipr_passing _ c r.prs memory asked.1).ring_within

    pub dbr_fits : c.dbr.address + c.dbr.length ≤ length memory
    dbr_fits = (ready_passing _ c r.prs memory asked.1).dbr_fits

    goes_on : Check.check (delivery_of r) m (as_pointer p) ≡ Check.checked m (with_ring_at_least c.ipr.ring (as_pointer p))
    unfolding Check.check unless_refused
    goes_on = ap (λ a. unless_refused a Check.refused (Check.checked m (with_ring_at_least c.ipr.ring (as_pointer p)))) (sym e ∙ z)

    module _ (x : Result Entry Fault) (t : Words.Pointer) (g : t ≡ with_ring_at_least c.ipr.ring (as_pointer p)) (s : CheckedBy m.registers.dbr memory m.registers.ipr t x) where
      raised_on : Check.checked m t ≡ Check.check (delivery_of r) (machine_of r memory) (as_pointer p)
      raised_on = ap (Check.checked m) g ∙ sym goes_on ∙ of_record

      pub says_fault : (e : Fault) → x ≡ Err e → Check.fault (fault_number e) t ≡ Check.check (delivery_of r) (machine_of r memory) (as_pointer p)
      says_fault e f = sym (check_faults m t e (rw f at s)) ∙ raised_on

      pub says_passes : (k : Entry) → x ≡ Ok k → Check.passes k.ring ≡ Check.check (delivery_of r) (machine_of r memory) (as_pointer p)
      says_passes k f = sym (check_passes m t k (rw f at s)) ∙ raised_on

      pub ring_passed : (k : Entry) → x ≡ Ok k → k.ring ≤ 7
      ring_passed k f = (rw f at s).2
