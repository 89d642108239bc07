-- Pointer words counted: only the effective address reads them, and at most 64. Assumes nothing.
use mathlib.Core.Path.{◌≡◌, refl}
use mathlib.Core.Bool.{Bool, false, ◌||◌, not}
use mathlib.Core.List.{List, ◌∷◌}
use mathlib.Core.Option.{Option, none, some}
use Prim.Native.Nat.{ℕ, zero, suc, ◌+◌, ◌≤◌}
use native.Mathlib.Nat.{suc-le-suc_iff}
use native.Mathlib.Omega.{arith}
use lib.Dec.{eqb}
use Rattle.model.specs.Words.{Pointer, Instruction}
use Rattle.model.specs.Registers.{Dbr, Registers, Delivery, Machine, dbr_in}
use Rattle.model.specs.Opcodes.{Access, sets, reads, writes, updates, transfers, calls, returns, loads_dbr, ends_run, restores, Opcode}
use Rattle.model.specs.Questions.{rings_at_least, dbr_fits, start_questions}
use Rattle.model.specs.Program.{Program, Outcome, faults, completes, halts, word_at, use_answer, unless_fault, ticks}
use Rattle.model.specs.Step.{chain, with_operand, load, store, update, transfer, check_call, call, return, if_dbr_fits, load_dbr, read_words, take_up, restore, perform, obey, step_program, pointer_words}
use Rattle.model.specs.Deliver.{step_with}
use Rattle.model.specs.Run.{unless_refused, traced, trace_on, trace_from, total_of, total, fault_count_on, fault_count_from, fault_count, single_count}
use Rattle.model.specs.Counted.{PointerWordsWithin, FetchFaultReadsNone, DirectReadsNone, NoOperandReadsNone, FaultCountWithin, SingleCountOfRun}
use Rattle.model.proofs.BranchLaws.{cond_holds}
use Rattle.model.proofs.RunLaws.{trace_goes, trace_refused}

-- A FAULT ends the count, a yes goes on
pub unless_fault_no : (n c : ℕ) → 1 ≤ n → unless_fault n c ≡ 0
unfolding unless_fault
unless_fault_no zero c h = absurd (omega arith)
unless_fault_no (suc n) c h = refl

pub unless_fault_yes : (n c : ℕ) → n ≡ 0 → unless_fault n c ≡ c
unfolding unless_fault
unless_fault_yes n c e = rw e

pub unless_fault_within : (n c : ℕ) {most : ℕ} → c ≤ most → unless_fault n c ≤ most
unfolding unless_fault
unless_fault_within zero c h = h
unless_fault_within (suc n) c h = omega arith

pub unless_fault_none : (n c : ℕ) → c ≡ 0 → unless_fault n c ≡ 0
unfolding unless_fault
unless_fault_none zero c e = e
unless_fault_none (suc n) c e = refl

module _ (m : Machine) where
  -- WHAT AN OPCODE DOES at its operand reads none: a line an access
  dbr_without_ticks : (n : ℕ) (b : Dbr) (t : Pointer) (p : Program) → ticks m p ≡ 0 → ticks m (if_dbr_fits n b t p) ≡ 0
  unfolding if_dbr_fits ticks
  dbr_without_ticks n b t p e = cond_holds (λ p. ticks m p ≡ 0) (dbr_fits n b) (λ _. e) (λ _. refl)

  words_without_ticks : (count : ℕ) (t : Pointer) (f : List ℕ → Program) → ((ws : List ℕ) → ticks m (f ws) ≡ 0) → ticks m (read_words count t f) ≡ 0
  unfolding read_words ticks
  words_without_ticks zero t f h = h _
  words_without_ticks (suc k) t f h = unless_fault_none (use_answer m t _) _ (words_without_ticks k _ _ (λ ws. h (_ ∷ ws)))

  taken_without_ticks : (n : ℕ) (t : Pointer) (r : Registers) → ticks m (take_up n t r) ≡ 0
  unfolding take_up ticks
  taken_without_ticks n t r =
      dbr_without_ticks n r.dbr t _ (cond_holds (λ p. ticks m p ≡ 0) (rings_at_least r.ipr.ring r.prs) (λ _. refl) (λ _. refl))

  pub perform_without_ticks : (n : ℕ) (k : Access) (i : Instruction) (r : Registers) (t : Pointer) → ticks m (perform n k i r t) ≡ 0
  unfolding perform load store update transfer check_call call return load_dbr restore ticks
  perform_without_ticks n (sets f) i r t = refl
  perform_without_ticks n (reads f) i r t = unless_fault_none (use_answer m t _) _ refl
  perform_without_ticks n (writes f) i r t = refl
  perform_without_ticks n (updates f) i r t = unless_fault_none (use_answer m t _) _ refl
  perform_without_ticks n (transfers f) i r t = cond_holds (λ p. ticks m p ≡ 0) (f r.a) (λ _. unless_fault_none (use_answer m t _) _ refl) (λ _. refl)
  perform_without_ticks n calls i r t = unless_fault_none (use_answer m t _) _ refl
  perform_without_ticks n returns i r t = unless_fault_none (use_answer m t _) _ refl
  perform_without_ticks n loads_dbr i r t =
      unless_fault_none (use_answer m t _) _ (dbr_without_ticks n (dbr_in (word_at m t)) t _ refl)
  perform_without_ticks n ends_run i r t = refl
  perform_without_ticks n restores i r t = unless_fault_none (use_answer m t _) _ (words_without_ticks 13 t _ (λ ws. taken_without_ticks n t _))

  -- THE CHAIN reads at most as many as it has left, if what follows reads none
  pub chain_ticks_within : (f : Pointer → Program) → ((t : Pointer) → ticks m (f t) ≡ 0) → (left : ℕ) (i : Bool) (t : Pointer) → ticks m (chain left i t f) ≤ left
  unfolding chain ticks
  chain_ticks_within f k zero i t = cond_holds (λ p. ticks m p ≤ 0) i (λ _. omega arith) (λ _. let z = k t in omega arith)
  chain_ticks_within f k (suc l) i t =
      cond_holds (λ p. ticks m p ≤ suc l) i
      (λ _. unless_fault_within (use_answer m t _) _ (suc-le-suc_iff.1 (chain_ticks_within f k l _ _))) (λ _. let z = k t in omega arith)

  operand_ticks_within : (o : Opcode) (i : Instruction) (r : Registers) (f : Pointer → Program) → ((t : Pointer) → ticks m (f t) ≡ 0) →
      ticks m (with_operand o i r f) ≤ 64
  unfolding with_operand
  operand_ticks_within o i r f k =
      cond_holds (λ p. ticks m p ≤ 64) o.operand (λ _. chain_ticks_within f k 64 _ _) (λ _. let z = k r.ipr in omega arith)

  obey_ticks_within : (n : ℕ) (r : Registers) (i : Instruction) (o : Option Opcode) → ticks m (obey n r i o) ≤ 64
  unfolding obey ticks
  obey_ticks_within n r i none = omega arith
  obey_ticks_within n r i (some o) =
      cond_holds (λ p. ticks m p ≤ 64) (not o.privileged || eqb r.ipr.ring 0)
      (λ _. operand_ticks_within o i r _ (λ t. perform_without_ticks n o.access i r t)) (λ _. omega arith)

pub pointer_words_within : PointerWordsWithin
unfolding pointer_words step_program ticks
pointer_words_within m = unless_fault_within (use_answer m _ _) _ (obey_ticks_within m _ _ _ _)

-- A STEP THAT READS NONE
pub fetch_fault_reads_none : FetchFaultReadsNone
unfolding pointer_words step_program ticks unless_fault
fetch_fault_reads_none n m e = rw e

module _ (m : Machine) (n : ℕ) (r : Registers) (i : Instruction) where
  chain_off_reads_none : (k : Access) (left : ℕ) (on : Bool) (t : Pointer) → on ≡ false → ticks m (chain left on t (perform n k i r)) ≡ 0
  unfolding chain
  chain_off_reads_none k zero on t e = rw e (perform_without_ticks m n k i r t)
  chain_off_reads_none k (suc l) on t e = rw e (perform_without_ticks m n k i r t)

  obey_reads_none : (o : Opcode) → ticks m (with_operand o i r (perform n o.access i r)) ≡ 0 → ticks m (obey n r i (some o)) ≡ 0
  unfolding obey ticks
  obey_reads_none o e = cond_holds (λ p. ticks m p ≡ 0) (not o.privileged || eqb r.ipr.ring 0) (λ _. e) (λ _. refl)

  obey_off_reads_none : (o : Option Opcode) → i.i ≡ false → ticks m (obey n r i o) ≡ 0
  unfolding obey with_operand ticks
  obey_off_reads_none none e = refl
  obey_off_reads_none (some o) e =
      obey_reads_none o
      (cond_holds (λ p. ticks m p ≡ 0) o.operand (λ _. chain_off_reads_none o.access 64 i.i _ e)
      (λ _. perform_without_ticks m n o.access i r r.ipr))

pub direct_reads_none : DirectReadsNone
unfolding pointer_words step_program ticks
direct_reads_none m e = unless_fault_none (use_answer m _ _) _ (obey_off_reads_none m _ _ _ _ e)

pub no_operand_reads_none : NoOperandReadsNone
unfolding pointer_words step_program ticks with_operand
no_operand_reads_none m o e f =
    unless_fault_none (use_answer m _ _) _ (rw e (obey_reads_none m _ _ _ o (rw f (perform_without_ticks m _ o.access _ _ _))))

-- THE STEP AT WHICH A RUN FAULTS
pub fault_count_goes : (v : Delivery) (b : ℕ) (m : Machine) → start_questions v m ≡ 0 → fault_count v b m ≡ fault_count_from v b m
unfolding fault_count unless_refused
fault_count_goes v b m e = rw e

pub fault_count_refused : (v : Delivery) (b n : ℕ) (m : Machine) → start_questions v m ≡ suc n → fault_count v b m ≡ 0
unfolding fault_count unless_refused
fault_count_refused v b n m e = rw e

-- A SINGLE STEP
pub single_count_of_run : SingleCountOfRun
unfolding single_count unless_refused total trace_from trace_on traced total_of fault_count_from fault_count_on
single_count_of_run v m = by_answer (start_questions v m) refl
  where
    by_outcome : (x : Outcome) →
        pointer_words m ≡ total_of (trace_on (pointer_words m) x (λ k. trace_from v 0 k)) + fault_count_on (pointer_words m) x (λ k. fault_count_from v 0 k)
    by_outcome (faults n t) = omega arith
    by_outcome (halts k) = omega arith
    by_outcome (completes k) = omega arith

    by_answer : (a : ℕ) → start_questions v m ≡ a → single_count v m ≡ total v 1 m + fault_count v 1 m
    by_answer zero e = rw (trace_goes v 1 m e, fault_count_goes v 1 m e, e) (by_outcome (step_with v m))
    by_answer (suc n) e = rw (trace_refused v 1 n m e, fault_count_refused v 1 n m e, e)

-- the step at which a run faults reads no more than any
fault_count_from_within : (v : Delivery) (b : ℕ) (m : Machine) → fault_count_from v b m ≤ 64
unfolding fault_count_from fault_count_on
fault_count_from_within v zero m = omega arith
fault_count_from_within v (suc b) m = on (step_with v m) (λ k. fault_count_from_within v b k)
  where
    on : (x : Outcome) → ((k : Machine) → fault_count_from v b k ≤ 64) → fault_count_on (pointer_words m) x (λ k. fault_count_from v b k) ≤ 64
    on (faults n t) f = pointer_words_within m
    on (halts k) f = omega arith
    on (completes k) f = f k

pub fault_count_within : FaultCountWithin
fault_count_within v b m = by_answer (start_questions v m) refl
  where
    by_answer : (a : ℕ) → start_questions v m ≡ a → fault_count v b m ≤ 64
    by_answer zero e = rw (fault_count_goes v b m e) (fault_count_from_within v b m)
    by_answer (suc n) e = rw (fault_count_refused v b n m e) (omega arith)
