-- The numbers of faults: those of a segment's questions, and beyond them those that a program itself gives. Assumes nothing.
use mathlib.Core.Path.{◌≡◌, refl, ap, subst}
use mathlib.Core.Bool.{Bool, true, false, ◌||◌, not}
use mathlib.Core.List.{List, ◌∷◌}
use mathlib.Core.Option.{Option, none, some}
use Prim.Native.Nat.{ℕ, zero, suc, ◌+◌, ◌≤◌, ◌<◌}
use native.Mathlib.Omega.{arith}
use lib.Dec.{leb, eqb, lit≤}
use lib.ListN.{length}
use borrow.Author.Tests.{leb-true, leb-false}
use Rattle.model.specs.Words.{Descriptor, Pointer, Instruction}
use Rattle.model.specs.Registers.{Dbr, Registers, Machine, dbr_in}
use Rattle.model.specs.Opcodes.{Access, sets, reads, writes, updates, transfers, calls, returns, loads_dbr, ends_run, restores, Opcode}
use Rattle.model.specs.Questions.{Question, ask, then_ask, rings_at_least, dbr_fits, segment_questions, word_questions, use_questions, fetch_questions, read_questions, part_questions, write_questions, return_questions, transfer_questions, call_questions}
use Rattle.model.specs.Program.{Program, fail, finish, halt, look, read, tick, write, Outcome, faults, completes, halts, use_answer, or_fault, execute}
use Rattle.model.specs.Step.{chain, with_operand, load, store, update, transfer, check_call, call, return, if_dbr_fits, load_dbr, read_words, take_up, restore, perform, obey, step_program, step}
use Rattle.model.proofs.BranchLaws.{cond_holds}

-- THE QUESTIONS OF A SEGMENT have numbers up to 30
ask_within : (b : Bool) (n x : ℕ) {most : ℕ} → n ≤ most → x ≤ most → ask b n x ≤ most
unfolding ask
ask_within true n x h k = k
ask_within false n x h k = h

then_ask_within : (a x : ℕ) {most : ℕ} → a ≤ most → x ≤ most → then_ask a x ≤ most
unfolding then_ask
then_ask_within zero x h k = k
then_ask_within (suc a) x h k = h

unfoldable pub UpTo30 : Question → Type 0
UpTo30 q = (d : Descriptor) → q d ≤ 30

pub answer_up_to_30 : (m : Machine) (t : Pointer) (q : Question) → UpTo30 q → use_answer m t q ≤ 30
unfolding use_answer use_questions segment_questions word_questions UpTo30
answer_up_to_30 m t q h =
    then_ask_within _ _
    (then_ask_within _ _
    (ask_within _ _ _ (lit≤ tt) (ask_within _ _ _ (lit≤ tt) (ask_within _ _ _ (lit≤ tt) (ask_within _ _ _ (lit≤ tt) (lit≤ tt))))) (ask_within _ _ _ (lit≤ tt) (lit≤ tt)))
    (h _)

pub fetch_up_to_30 : (t : Pointer) → UpTo30 (fetch_questions t)
unfolding UpTo30 fetch_questions
fetch_up_to_30 t d = ask_within _ _ _ (lit≤ tt) (lit≤ tt)

pub read_up_to_30 : (t : Pointer) → UpTo30 (read_questions t)
unfolding UpTo30 read_questions
read_up_to_30 t d = ask_within _ _ _ (lit≤ tt) (lit≤ tt)

part_up_to_30 : (n : ℕ) (t : Pointer) → UpTo30 (part_questions n t)
unfolding UpTo30 part_questions word_questions
part_up_to_30 n t d = then_ask_within _ _ (ask_within _ _ _ (lit≤ tt) (lit≤ tt)) (read_up_to_30 t d)

write_up_to_30 : (t : Pointer) → UpTo30 (write_questions t)
unfolding UpTo30 write_questions
write_up_to_30 t d = ask_within _ _ _ (lit≤ tt) (lit≤ tt)

return_up_to_30 : (t : Pointer) → UpTo30 (return_questions t)
unfolding UpTo30 return_questions
return_up_to_30 t d = ask_within _ _ _ (lit≤ tt) (lit≤ tt)

transfer_up_to_30 : (ipr t : Pointer) → UpTo30 (transfer_questions ipr t)
unfolding UpTo30 transfer_questions
transfer_up_to_30 ipr t d = ask_within _ _ _ (lit≤ tt) (return_up_to_30 t d)

call_up_to_30 : (ipr t : Pointer) → UpTo30 (call_questions ipr t)
unfolding UpTo30 call_questions
call_up_to_30 ipr t d =
    ask_within _ _ _ (lit≤ tt)
    (ask_within _ _ _ (lit≤ tt) (ask_within _ _ _ (lit≤ tt) (ask_within _ _ _ (lit≤ tt) (ask_within _ _ _ (lit≤ tt) (lit≤ tt)))))

-- A FAULT'S NUMBER
unfoldable pub fault_number : Outcome → ℕ
fault_number (faults n t) = n
fault_number (completes k) = 0
fault_number (halts k) = 0

-- a number above 30 comes only past the questions
pub past_questions : (c : ℕ) → 30 < c → (a : ℕ) (t : Pointer) (x : Outcome) → a ≤ 30 → fault_number (or_fault a t x) ≡ c → (a ≡ 0) × (fault_number x ≡ c)
unfolding or_fault fault_number
past_questions c above zero t x h e = (refl, e)
past_questions c above (suc a) t x h e = absurd (let z : suc a ≡ c = e in omega arith)

-- PROGRAMS that give numbers with P alone
module _ (P : ℕ → Type 0) where
  unfoldable pub Fails : Program → Type 0
  Fails (fail n t) = P n
  Fails (finish r) = Unit {0}
  Fails (halt r) = Unit {0}
  Fails (look q t f) = UpTo30 q × ((d : Descriptor) → Fails (f d))
  Fails (read q t f) = UpTo30 q × ((d : Descriptor) (w : ℕ) → Fails (f d w))
  Fails (tick p) = Fails p
  Fails (write q t v r) = UpTo30 q

  pub fails_law : (m : Machine) (c : ℕ) → 30 < c → (p : Program) → Fails p → fault_number (execute m p) ≡ c → P c
  unfolding Fails execute fault_number
  fails_law m c above (fail n t) h e = subst P e h
  fails_law m c above (finish r) h e = absurd (let z : 0 ≡ c = e in omega arith)
  fails_law m c above (halt r) h e = absurd (let z : 0 ≡ c = e in omega arith)
  fails_law m c above (look q t f) h e = fails_law m c above (f _) (h.1 _) (past_questions c above (use_answer m t q) t _ (answer_up_to_30 m t q h.0) e).1
  fails_law m c above (read q t f) h e = fails_law m c above (f _ _) (h.1 _ _) (past_questions c above (use_answer m t q) t _ (answer_up_to_30 m t q h.0) e).1
  fails_law m c above (tick p) h e = fails_law m c above p h e
  fails_law m c above (write q t v r) h e =
      absurd (let z : 0 ≡ c = (past_questions c above (use_answer m t q) t _ (answer_up_to_30 m t q h) e).1 in omega arith)

  -- what an opcode does at its operand gives 34 and 52: a line an access
  module _ (at_34 : P 34) (at_52 : P 52) (n : ℕ) where
    dbr_fails : (b : Dbr) (t : Pointer) (p : Program) → Fails p → Fails (if_dbr_fits n b t p)
    unfolding if_dbr_fits Fails
    dbr_fails b t p h = cond_holds Fails (dbr_fits n b) (λ _. h) (λ _. at_34)

    words_fail : (count : ℕ) (t : Pointer) (f : List ℕ → Program) → ((ws : List ℕ) → Fails (f ws)) → Fails (read_words count t f)
    unfolding read_words Fails
    words_fail zero t f h = h _
    words_fail (suc k) t f h = (read_up_to_30 t, λ d w. words_fail k _ _ (λ ws. h (w ∷ ws)))

    taken_fails : (t : Pointer) (r : Registers) → Fails (take_up n t r)
    unfolding take_up Fails
    taken_fails t r = dbr_fails r.dbr t _ (cond_holds Fails (rings_at_least r.ipr.ring r.prs) (λ _. tt) (λ _. at_52))

    pub perform_fails : (k : Access) (i : Instruction) (r : Registers) (t : Pointer) → Fails (perform n k i r t)
    unfolding perform load store update transfer check_call call return load_dbr restore Fails
    perform_fails (sets f) i r t = tt
    perform_fails (reads f) i r t = (read_up_to_30 t, λ d w. tt)
    perform_fails (writes f) i r t = write_up_to_30 t
    perform_fails (updates f) i r t = (read_up_to_30 t, λ d w. write_up_to_30 t)
    perform_fails (transfers f) i r t = cond_holds Fails (f r.a) (λ _. (transfer_up_to_30 r.ipr t, λ d. tt)) (λ _. tt)
    perform_fails calls i r t = (call_up_to_30 r.ipr t, λ d. tt)
    perform_fails returns i r t = (return_up_to_30 t, λ d. tt)
    perform_fails loads_dbr i r t = (read_up_to_30 t, λ d w. dbr_fails (dbr_in w) t _ tt)
    perform_fails ends_run i r t = tt
    perform_fails restores i r t = (part_up_to_30 13 t, λ d. words_fail 13 t _ (λ ws. taken_fails t _))

    module _ (at_31 : P 31) where
      chain_fails : (k : Access) (i : Instruction) (r : Registers) (left : ℕ) (on : Bool) (t : Pointer) → Fails (chain left on t (perform n k i r))
      unfolding chain Fails
      chain_fails k i r zero on t = cond_holds Fails on (λ _. at_31) (λ _. perform_fails k i r t)
      chain_fails k i r (suc l) on t = cond_holds Fails on (λ _. (read_up_to_30 t, λ d w. chain_fails k i r l _ _)) (λ _. perform_fails k i r t)

      pub operand_fails : (o : Opcode) (i : Instruction) (r : Registers) → Fails (with_operand o i r (perform n o.access i r))
      unfolding with_operand
      operand_fails o i r = cond_holds Fails o.operand (λ _. chain_fails o.access i r 64 i.i _) (λ _. perform_fails o.access i r r.ipr)

      obey_fails : P 32 → P 33 → (i : Instruction) (r : Registers) (o : Option Opcode) → Fails (obey n r i o)
      unfolding obey Fails
      obey_fails at_32 at_33 i r none = at_32
      obey_fails at_32 at_33 i r (some o) = cond_holds Fails (not o.privileged || eqb r.ipr.ring 0) (λ _. operand_fails o i r) (λ _. at_33)

      pub step_fails : P 32 → P 33 → (r : Registers) → Fails (step_program n r)
      unfolding step_program Fails
      step_fails at_32 at_33 r = (fetch_up_to_30 r.ipr, λ d w. obey_fails at_32 at_33 _ r _)

-- THE STEP'S are at most 52
pub fault_number_within : (m : Machine) (n : ℕ) (t : Pointer) → step m ≡ faults n t → n ≤ 52
unfolding step fault_number
fault_number_within m n t e = by_test (leb n 30) refl
  where
    by_test : (b : Bool) → leb n 30 ≡ b → n ≤ 52
    by_test true l = let z = leb-true n 30 l in omega arith
    by_test false l =
        fails_law (λ k. k ≤ 52) m n (let z = leb-false n 30 l in omega arith) (step_program (length m.memory) m.registers)
        (step_fails (λ k. k ≤ 52) (lit≤ tt) (lit≤ tt) _ (lit≤ tt) (lit≤ tt) (lit≤ tt) _) (ap fault_number e)
