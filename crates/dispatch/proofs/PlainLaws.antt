-- The plain step beside the step: one law for every program, then a line an access. Assumes nothing.
use mathlib.Core.Path.{◌≡◌, refl, sym, ◌∙◌, ap, subst}
use mathlib.Core.Bool.{Bool, true, false, ◌||◌, not, cond}
use mathlib.Core.Option.{Option, none, some}
use Prim.Native.Nat.{ℕ, zero, suc}
use lib.Dec.{eqb}
use lib.ListN.{length}
use Rattle.model.specs.Words.{Descriptor, Pointer, Instruction, instruction_in}
use Rattle.model.specs.Registers.{Registers, Delivery, Machine, dbr_in}
use Rattle.model.specs.Opcodes.{Access, sets, reads, writes, updates, transfers, calls, returns, loads_dbr, ends_run, restores, Opcode}
use Rattle.model.specs.Questions.{Question, dbr_fits, start_questions}
use Rattle.model.specs.Program.{Program, fail, finish, look, read, Outcome, faults, completes, halts, use_answer, or_fault, execute, unless_fault, ticks}
use Rattle.model.specs.Step.{chain, with_operand, load, store, update, transfer, check_call, call, return, if_dbr_fits, load_dbr, perform, obey, step_program, step, pointer_words}
use Rattle.model.proofs.BranchLaws.{cond_holds}
use Rattle.model.proofs.WordLaws.{Within}
use Rattle.model.proofs.FitLaws.{Fit, Formed}
use Rattle.model.proofs.SoundLaws.{passing_fits}
use Rattle.model.proofs.FaultLaws.{Points, FaultHas, points_law, perform_points, operand_points}
use Rattle.model.proofs.TickLaws.{perform_without_ticks}
use Rattle.dispatch.specs.Plain.{plainly, obey_plainly, plain_program, plain_step, stopped}

module _ (m : Machine) (size : ℕ) where
  -- a plain outcome, and the step's: where it stopped, what is left to do
  abbrev Follows : Outcome → Outcome → Type 0
  Follows (faults n t) o = o ≡ execute m (stopped size n t)
  Follows (completes k) o = o ≡ completes k
  Follows (halts k) o = o ≡ halts k

  record Alike (p q : Program) : Type 0 where
    outcome : Follows (execute m p) (execute m q)
    count : ticks m p ≡ ticks m q

  -- THE SAME QUESTIONS FIRST
  after_answer : (a : ℕ) (t : Pointer) (x y : Outcome) → Follows x y → Follows (or_fault a t x) (or_fault a t y)
  unfolding or_fault stopped execute
  after_answer zero t x y h = h
  after_answer (suc n) t x y h = refl

  alike_read : (q : Question) (t : Pointer) (f g : Descriptor → (word : ℕ) → Program) → ((d : Descriptor) (w : ℕ) → Alike (f d w) (g d w)) → Alike (read q t f) (read q t g)
  unfolding execute ticks
  alike_read q t f g h =
      record { outcome = after_answer (use_answer m t q) t _ _ (h _ _).outcome; count = ap (unless_fault (use_answer m t q)) (h _ _).count }

  alike_look : (q : Question) (t : Pointer) (f g : Descriptor → Program) → ((d : Descriptor) → Alike (f d) (g d)) → Alike (look q t f) (look q t g)
  unfolding execute ticks
  alike_look q t f g h =
      record { outcome = after_answer (use_answer m t q) t _ _ (h _).outcome; count = ap (unless_fault (use_answer m t q)) (h _).count }

  alike_either : (b : Bool) {p q x y : Program} → Alike p x → Alike q y → Alike (cond b p q) (cond b x y)
  alike_either true h k = h
  alike_either false h k = k

  finishes : (r : Registers) → Alike (finish r) (finish r)
  unfolding execute ticks
  finishes r = record { outcome = refl; count = refl }

  fails : (n : ℕ) (t : Pointer) → Alike (fail (suc n) t) (fail (suc n) t)
  unfolding execute ticks stopped
  fails n t = record { outcome = refl; count = refl }

  -- WHAT AN OPCODE DOES at its operand
  performs : (k : Access) (i : Instruction) (r : Registers) (t : Pointer) → Alike (plainly size k i r t) (perform size k i r t)
  unfolding plainly perform load store update transfer check_call call return load_dbr if_dbr_fits execute ticks stopped
  performs (sets f) i r t = finishes _
  performs (reads f) i r t = alike_read _ t _ _ (λ d w. finishes _)
  performs (writes f) i r t = record { outcome = after_answer (use_answer m t _) t _ _ refl; count = refl }
  performs (updates f) i r t = alike_read _ t _ _ (λ d w. record { outcome = after_answer (use_answer m t _) t _ _ refl; count = refl })
  performs (transfers f) i r t = alike_either (f r.a) (alike_look _ t _ _ (λ d. finishes _)) (finishes _)
  performs calls i r t = alike_look _ t _ _ (λ d. finishes _)
  performs returns i r t = alike_look _ t _ _ (λ d. finishes _)
  performs loads_dbr i r t = alike_read _ t _ _ (λ d w. alike_either (dbr_fits size (dbr_in w)) (finishes _) (fails 33 t))
  performs ends_run i r t = record { outcome = refl; count = refl }
  performs restores i r t = record { outcome = refl; count = sym (perform_without_ticks m size restores i r t) }

  pub plainly_without_ticks : (k : Access) (i : Instruction) (r : Registers) (t : Pointer) → ticks m (plainly size k i r t) ≡ 0
  plainly_without_ticks k i r t = (performs k i r t).count ∙ perform_without_ticks m size k i r t

  -- THE OPERAND, and the step
  chains : (f g : Pointer → Program) → ((t : Pointer) → Alike (f t) (g t)) → (left : ℕ) (i : Bool) (t : Pointer) → Alike (chain left i t f) (chain left i t g)
  unfolding chain execute ticks
  chains f g h zero i t = alike_either i (fails 30 t) (h t)
  chains f g h (suc l) i t =
      alike_either i
      (alike_read _ t _ _ (λ d w. let k = chains f g h l _ _ in record { outcome = k.outcome; count = ap suc k.count })) (h t)

  operands : (o : Opcode) (i : Instruction) (r : Registers) (f g : Pointer → Program) → ((t : Pointer) → Alike (f t) (g t)) → Alike (with_operand o i r f) (with_operand o i r g)
  unfolding with_operand
  operands o i r f g h = alike_either o.operand (chains f g h 64 _ _) (h r.ipr)

  obeys : (r : Registers) (i : Instruction) (o : Option Opcode) → Alike (obey_plainly size r i o) (obey size r i o)
  unfolding obey_plainly obey
  obeys r i none = fails 31 r.ipr
  obeys r i (some o) =
      alike_either (not o.privileged || eqb r.ipr.ring 0) (operands o i r _ _ (λ t. performs o.access i r t)) (fails 32 r.ipr)

module _ (m : Machine) where
  steps : Alike m (length m.memory) (plain_program (length m.memory) m.registers) (step_program (length m.memory) m.registers)
  unfolding plain_program step_program
  steps = alike_read m _ _ m.registers.ipr _ _ (λ d w. obeys m _ m.registers (instruction_in w) _)

  pub plain_counts : pointer_words m ≡ ticks m (plain_program (length m.memory) m.registers)
  unfolding pointer_words
  plain_counts = sym steps.count

  follows : Follows m (length m.memory) (plain_step m) (step m)
  unfolding plain_step step
  follows = steps.outcome

  pub plain_completes : (k : Machine) → plain_step m ≡ completes k → step m ≡ completes k
  plain_completes k e = rw e at follows

  pub plain_halts : (k : Machine) → plain_step m ≡ halts k → step m ≡ halts k
  plain_halts k e = rw e at follows

  pub plain_stops : (n : ℕ) (t : Pointer) → plain_step m ≡ faults n t → step m ≡ execute m (stopped (length m.memory) n t)
  plain_stops n t e = rw e at follows

-- THE POINTER at which a plain step stops is in range
module _ {n : ℕ} {r : Registers} (h : Fit (λ _. Unit {0}) (λ _. Unit {0}) n r) where
  plainly_points : (k : Access) (i : Instruction) (t : Pointer) → Formed r t → Points Within (plainly n k i r t)
  unfolding plainly Points
  plainly_points (sets f) i t g = perform_points h (sets f) i t g
  plainly_points (reads f) i t g = perform_points h (reads f) i t g
  plainly_points (writes f) i t g = perform_points h (writes f) i t g
  plainly_points (updates f) i t g = perform_points h (updates f) i t g
  plainly_points (transfers f) i t g = perform_points h (transfers f) i t g
  plainly_points calls i t g = perform_points h calls i t g
  plainly_points returns i t g = perform_points h returns i t g
  plainly_points loads_dbr i t g = perform_points h loads_dbr i t g
  plainly_points ends_run i t g = perform_points h ends_run i t g
  plainly_points restores i t g = g.within

  obey_points : (i : Instruction) (o : Option Opcode) → Points Within (obey_plainly n r i o)
  unfolding obey_plainly Points
  obey_points i none = h.pointers_fit.ipr_within
  obey_points i (some o) =
      cond_holds (Points Within) (not o.privileged || eqb r.ipr.ring 0)
      (λ _. operand_points h o i _ (λ t g. plainly_points o.access i t g)) (λ _. h.pointers_fit.ipr_within)

  plain_points : Points Within (plain_program n r)
  unfolding plain_program Points
  plain_points = (h.pointers_fit.ipr_within, λ d w b. obey_points (instruction_in w) _)

pub stop_within : (v : Delivery) (m : Machine) (n : ℕ) (t : Pointer) → start_questions v m ≡ 0 → plain_step m ≡ faults n t → Within t
unfolding plain_step
stop_within v m n t e f =
    subst (FaultHas Within) f (points_law Within m (plain_program (length m.memory) m.registers) (plain_points (passing_fits v m e tt tt)))
