-- The pointer of every fault is in range: one law for every program of questions, then a line an access. Assumes nothing.
use mathlib.Core.Path.{◌≡◌, subst}
use mathlib.Core.Bool.{Bool, ◌||◌, not}
use mathlib.Core.List.{List, ◌∷◌}
use mathlib.Core.Option.{Option, none, some}
use Prim.Native.Nat.{ℕ, zero, suc, ◌≤◌}
use native.Mathlib.Nat.{le_refl}
use lib.Dec.{eqb}
use lib.ListN.{length}
use Rattle.model.specs.Words.{Descriptor, Pointer, Instruction, instruction_in}
use Rattle.model.specs.Registers.{Dbr, Registers, Delivery, Machine, dbr_in, moved_by}
use Rattle.model.specs.Opcodes.{Access, sets, reads, writes, updates, transfers, calls, returns, loads_dbr, ends_run, restores, Opcode}
use Rattle.model.specs.Questions.{rings_at_least, dbr_fits, start_questions}
use Rattle.model.specs.Program.{Program, fail, finish, halt, look, read, tick, write, Outcome, faults, completes, halts, use_answer, or_fault, execute}
use Rattle.model.specs.Step.{chain, with_operand, load, store, update, transfer, check_call, call, return, if_dbr_fits, load_dbr, read_words, take_up, restore, perform, obey, step_program, step}
use Rattle.model.proofs.BranchLaws.{cond_holds}
use Rattle.model.proofs.WordLaws.{Within}
use Rattle.model.proofs.LeavesLaws.{descriptor_r1_within}
use Rattle.model.proofs.FitLaws.{Fit, Formed, moved_within}
use Rattle.model.proofs.SoundLaws.{first_address_formed, next_address_formed, passing_fits}

-- every pointer under question has P
module _ (P : Pointer → Type 0) where
  unfoldable pub Points : Program → Type 0
  Points (fail n t) = P t
  Points (finish r) = Unit {0}
  Points (halt r) = Unit {0}
  Points (look q t f) = P t × ((d : Descriptor) → d.r1 ≤ 7 → Points (f d))
  Points (read q t f) = P t × ((d : Descriptor) (w : ℕ) → d.r1 ≤ 7 → Points (f d w))
  Points (tick p) = Points p
  Points (write q t v r) = P t

  abbrev pub FaultHas : Outcome → Type 0
  FaultHas (faults n t) = P t
  FaultHas (completes k) = Unit {0}
  FaultHas (halts k) = Unit {0}

  fault_or_rest : (n : ℕ) (t : Pointer) (x : Outcome) → P t → FaultHas x → FaultHas (or_fault n t x)
  unfolding or_fault
  fault_or_rest zero t x h k = k
  fault_or_rest (suc n) t x h k = h

  pub points_law : (m : Machine) (p : Program) → Points p → FaultHas (execute m p)
  unfolding Points execute
  points_law m (fail n t) h = h
  points_law m (finish r) h = tt
  points_law m (halt r) h = tt
  points_law m (look q t f) h = fault_or_rest (use_answer m t q) t _ h.0 (points_law m (f _) (h.1 _ (descriptor_r1_within m t.segment)))
  points_law m (read q t f) h = fault_or_rest (use_answer m t q) t _ h.0 (points_law m (f _ _) (h.1 _ _ (descriptor_r1_within m t.segment)))
  points_law m (tick p) h = points_law m p h
  points_law m (write q t v r) h = fault_or_rest (use_answer m t q) t _ h tt

-- the step's pointers are IPR and formed addresses
module _ {n : ℕ} {r : Registers} (h : Fit (λ _. Unit {0}) (λ _. Unit {0}) n r) where
  chain_points : (f : Pointer → Program) → ((t : Pointer) → Formed r t → Points Within (f t)) →
      (left : ℕ) (i : Bool) (t : Pointer) → Formed r t → Points Within (chain left i t f)
  unfolding chain Points
  chain_points f k zero i t g = cond_holds (Points Within) i (λ _. g.within) (λ _. k t g)
  chain_points f k (suc l) i t g =
      cond_holds (Points Within) i
      (λ _. (g.within, λ d w b. chain_points f k l _ _ (next_address_formed (λ v _. tt) tt h t d w b g))) (λ _. k t g)

  dbr_points : (b : Dbr) (t : Pointer) (p : Program) → Within t → Points Within p → Points Within (if_dbr_fits n b t p)
  unfolding if_dbr_fits Points
  dbr_points b t p w h = cond_holds (Points Within) (dbr_fits n b) (λ _. h) (λ _. w)

  taken_points : (t : Pointer) (u : Registers) → Within t → Points Within (take_up n t u)
  unfolding take_up Points
  taken_points t u w = dbr_points u.dbr t _ w (cond_holds (Points Within) (rings_at_least u.ipr.ring u.prs) (λ _. tt) (λ _. w))

  words_point : (count : ℕ) (t : Pointer) (f : List ℕ → Program) → Within t → ((ws : List ℕ) → Points Within (f ws)) → Points Within (read_words count t f)
  unfolding read_words Points
  words_point zero t f w k = k _
  words_point (suc c) t f w k = (w, λ d v b. words_point c (moved_by 1 t) _ (moved_within 1 t w) (λ ws. k (v ∷ ws)))

  pub perform_points : (k : Access) (i : Instruction) (t : Pointer) → Formed r t → Points Within (perform n k i r t)
  unfolding perform load store update transfer check_call call return load_dbr restore Points
  perform_points (sets f) i t g = tt
  perform_points (reads f) i t g = (g.within, λ d w b. tt)
  perform_points (writes f) i t g = g.within
  perform_points (updates f) i t g = (g.within, λ d w b. g.within)
  perform_points (transfers f) i t g = cond_holds (Points Within) (f r.a) (λ _. (g.within, λ d b. tt)) (λ _. tt)
  perform_points calls i t g = (g.within, λ d b. tt)
  perform_points returns i t g = (g.within, λ d b. tt)
  perform_points loads_dbr i t g = (g.within, λ d w b. dbr_points (dbr_in w) t _ g.within tt)
  perform_points ends_run i t g = tt
  perform_points restores i t g = (g.within, λ d b. words_point 13 t _ g.within (λ ws. taken_points t _ g.within))

  pub operand_points : (o : Opcode) (i : Instruction) (f : Pointer → Program) → ((t : Pointer) → Formed r t → Points Within (f t)) →
      Points Within (with_operand o i r f)
  unfolding with_operand
  operand_points o i f k =
      cond_holds (Points Within) o.operand (λ _. chain_points f k 64 _ _ (first_address_formed (λ v _. tt) tt h i))
      (λ _. k r.ipr (record { within = h.pointers_fit.ipr_within; ring_at_least = le_refl r.ipr.ring }))

  obey_points : (i : Instruction) (o : Option Opcode) → Points Within (obey n r i o)
  unfolding obey Points
  obey_points i none = h.pointers_fit.ipr_within
  obey_points i (some o) =
      cond_holds (Points Within) (not o.privileged || eqb r.ipr.ring 0)
      (λ _. operand_points o i _ (λ t g. perform_points o.access i t g)) (λ _. h.pointers_fit.ipr_within)

  step_points : Points Within (step_program n r)
  unfolding step_program Points
  step_points = (h.pointers_fit.ipr_within, λ d w b. obey_points (instruction_in w) _)

pub fault_pointer_within : (v : Delivery) (m : Machine) (n : ℕ) (t : Pointer) → start_questions v m ≡ 0 → step m ≡ faults n t → Within t
unfolding step
fault_pointer_within v m n t e f =
    subst (FaultHas Within) f (points_law Within m (step_program (length m.memory) m.registers) (step_points (passing_fits v m e tt tt)))
