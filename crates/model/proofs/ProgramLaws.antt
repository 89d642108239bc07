-- What a passed use says of its address, and one step of the interpreter. Assumes nothing.
use mathlib.Core.Path.{◌≡◌, refl}
use Prim.Native.Nat.{ℕ, zero, suc, ◌≤◌, ◌<◌}
use native.Mathlib.Omega.{arith}
use lib.ListN.{length, length-set}
use borrow.Author.Tests.{lt-ltb}
use Rattle.model.specs.Words.{Pointer}
use Rattle.model.specs.Registers.{Machine, machine}
use Rattle.model.specs.Questions.{ask, then_ask, Question, segment_questions, word_questions, use_questions}
use Rattle.model.specs.Program.{Program, fail, finish, halt, look, read, tick, write, Outcome, faults, completes, halts, descriptor_of, absolute_address, use_answer, or_fault, execute}
use Rattle.model.proofs.QuestionLaws.{then_ask_yes, use_passes_segment, word_within_segment, segment_within_memory}

-- 11 to 15 of a use, for short
unfoldable pub UsePasses : Machine → Pointer → Type 0
UsePasses m t = use_questions (length m.memory) m.registers.dbr t (descriptor_of m t.segment) ≡ 0

pub answer_passes : (m : Machine) (t : Pointer) (q : Question) → use_answer m t q ≡ 0 → UsePasses m t × (q (descriptor_of m t.segment) ≡ 0)
unfolding use_answer UsePasses
answer_passes m t q e = then_ask_yes _ _ e

pub answer_yes : (m : Machine) (t : Pointer) (q : Question) → segment_questions (length m.memory) m.registers.dbr t.segment (descriptor_of m t.segment) ≡ 0 →
    t.word < (descriptor_of m t.segment).length → q (descriptor_of m t.segment) ≡ 0 → use_answer m t q ≡ 0
unfolding use_answer use_questions word_questions then_ask ask
answer_yes m t q e l f = rw (e, lt-ltb t.word (descriptor_of m t.segment).length l, f)

pub address_within_memory : (m : Machine) (t : Pointer) → UsePasses m t → absolute_address m t < length m.memory
unfolding absolute_address UsePasses
address_within_memory m t e =
    let d = descriptor_of m t.segment in
    let n = length m.memory in
    let b = m.registers.dbr in
    let x = word_within_segment n b t d e in
    let y = segment_within_memory n b t.segment d (use_passes_segment n b t d e) in
    omega arith

-- a no is the fault, a yes goes on
pub or_fault_no : (n : ℕ) (t : Pointer) (x : Outcome) → 1 ≤ n → or_fault n t x ≡ faults n t
unfolding or_fault
or_fault_no zero t x h = absurd (omega arith)
or_fault_no (suc n) t x h = refl

pub or_fault_yes : (n : ℕ) (t : Pointer) (x : Outcome) → n ≡ 0 → or_fault n t x ≡ x
unfolding or_fault
or_fault_yes n t x e = rw e

-- MEMORY KEEPS ITS SIZE
abbrev pub SizeKept : ℕ → Outcome → Type 0
SizeKept n (faults c t) = Unit {0}
SizeKept n (completes k) = length k.memory ≡ n
SizeKept n (halts k) = length k.memory ≡ n

size_kept_unless_fault : (n c : ℕ) (t : Pointer) (x : Outcome) → SizeKept n x → SizeKept n (or_fault c t x)
unfolding or_fault
size_kept_unless_fault n zero t x h = h
size_kept_unless_fault n (suc c) t x h = tt

pub execute_keeps_size : (m : Machine) (p : Program) → SizeKept (length m.memory) (execute m p)
unfolding execute machine
execute_keeps_size m (fail c t) = tt
execute_keeps_size m (finish r) = refl
execute_keeps_size m (halt r) = refl
execute_keeps_size m (look q t f) = size_kept_unless_fault _ (use_answer m t q) t _ (execute_keeps_size m (f _))
execute_keeps_size m (read q t f) = size_kept_unless_fault _ (use_answer m t q) t _ (execute_keeps_size m (f _ _))
execute_keeps_size m (tick p) = execute_keeps_size m p
execute_keeps_size m (write q t v r) = size_kept_unless_fault _ (use_answer m t q) t _ (length-set m.memory (absolute_address m t) v)
