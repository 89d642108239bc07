-- CALL by its check, and what the check's answer says of the next step. Assumes nothing.
use mathlib.Core.Path.{◌≡◌, refl, sym, ◌∙◌, ap, subst}
use mathlib.Core.Bool.{Bool, true, false, cond, not, ◌||◌}
use mathlib.Core.Option.{some}
use Prim.Native.Nat.{ℕ, zero, suc}
use lib.Dec.{eqb}
use lib.ListN.{length}
use Rattle.model.specs.Words.{Pointer, Instruction, instruction_in}
use Rattle.model.specs.Registers.{Registers, Machine, machine, with_ring_at_least}
use Rattle.model.specs.Opcodes.{CALL, decoded}
use Rattle.model.specs.Questions.{call_questions, new_ring}
use Rattle.model.specs.Program.{Program, Outcome, faults, completes, descriptor_of, word_at, use_answer, or_fault, execute}
use Rattle.model.specs.Step.{first_address, chain, with_operand, check_call, called, call, perform, obey, step_program, step}
use Rattle.model.specs.Run.{unless_refused}
use Rattle.model.specs.Check.{Check, refused, fault, passes, answered, checked, check_questions, check}
use Rattle.model.specs.Checked.{ByCheck, CallsByCheck, AboutToCall, CheckTells}
use Rattle.model.proofs.Computing.{by_computation}

pub calls_by_check : CallsByCheck
unfolding call check_call checked answered execute or_fault
calls_by_check m t = by_answer (use_answer m t (call_questions m.registers.ipr t))
  where
    ring : ℕ
    ring = new_ring t (descriptor_of m t.segment)

    by_answer : (a : ℕ) → ByCheck m t (or_fault a t (completes (machine (called ring t m.registers) m.memory))) (answered a t ring)
    by_answer zero = refl
    by_answer (suc k) = refl

-- a refusal passes nothing
abbrev Passed : Check → Type 0
Passed (refused n) = ⊥
Passed (fault n t) = ⊥
Passed (passes n) = Unit {0}

passed_on : (a : ℕ) (x : Check) (n : ℕ) → unless_refused a refused x ≡ passes n → x ≡ passes n
unfolding unless_refused
passed_on zero x n e = e
passed_on (suc k) x n e = absurd (subst Passed (sym e) tt)

-- A CALL AT IPR, with its address formed
module _ (m : Machine) (p : Pointer) (a : AboutToCall m p) where
  abbrev i : Instruction
  i = instruction_in (word_at m m.registers.ipr)

  abbrev r : Registers
  r = m.registers

  operand_formed : with_operand CALL i r (perform (length m.memory) CALL.access i r) ≡ call r (with_ring_at_least r.ipr.ring p)
  unfolding with_operand CALL chain perform
  operand_formed = ap (λ j. chain 64 j (first_address i r) (perform (length m.memory) CALL.access i r)) a.direct ∙ ap (call r) a.there

  obeyed : obey (length m.memory) r i (decoded i.opcode) ≡ call r (with_ring_at_least r.ipr.ring p)
  unfolding obey by_computation
  obeyed = ap (λ o. obey (length m.memory) r i (decoded o)) a.is_call ∙ operand_formed

  pub comes_to_call : step m ≡ execute m (call r (with_ring_at_least r.ipr.ring p))
  unfolding step step_program execute or_fault
  comes_to_call = ap (λ k. or_fault k r.ipr (execute m (obey (length m.memory) r i (decoded i.opcode)))) a.fetched ∙ ap (execute m) obeyed

pub check_tells : CheckTells
unfolding check
check_tells v m p n e a =
    let t = with_ring_at_least m.registers.ipr.ring p in
    comes_to_call m p a ∙ subst (ByCheck m t (execute m (call m.registers t))) (passed_on (check_questions v m p) (checked m t) n e) (calls_by_check m t)
