-- A step as a program of questions: each use of memory is 11 to 15, the questions of that use, and one access. Assumes nothing: these are definitions.
use Rattle.std.specs.Prelude.{ℕ, zero, suc, ◌+◌, length, get_or, set}
use Rattle.model.specs.Words.{Descriptor, descriptor_in, Pointer}
use Rattle.model.specs.Registers.{Registers, Machine, machine}
use Rattle.model.specs.Questions.{then_ask, Question, use_questions}

pub data Program : Type 0 where
  -- a no that asks nothing of memory: 31 to 34
  fail : (number : ℕ) → Pointer → Program
  -- the step is complete
  finish : Registers → Program
  -- complete, and the run ends after it
  halt : Registers → Program
  -- a segment's descriptor
  look : Question → Pointer → (Descriptor → Program) → Program
  -- a descriptor and the word at the pointer
  read : Question → Pointer → (Descriptor → (word : ℕ) → Program) → Program
  -- a pointer word was read, and the program goes on (02, L2)
  tick : Program → Program
  -- the word at the pointer becomes `value`, and the step is complete
  write : Question → Pointer → (value : ℕ) → Registers → Program

-- a fault leaves registers and memory as they were, so it carries none
pub data Outcome : Type 0 where
  faults : (number : ℕ) → Pointer → Outcome
  completes : Machine → Outcome
  halts : Machine → Outcome

-- ONCE ITS DESCRIPTOR HAS PASSED, a segment is its own stretch of memory
unfoldable pub descriptor_of : Machine → (segment : ℕ) → Descriptor
descriptor_of m s = descriptor_in (get_or m.memory (m.registers.dbr.address + s) 0)

unfoldable pub absolute_address : Machine → Pointer → ℕ
absolute_address m t = (descriptor_of m t.segment).address + t.word

unfoldable pub word_at : Machine → Pointer → ℕ
word_at m t = get_or m.memory (absolute_address m t) 0

-- 11 to 15, then the questions of the use
unfoldable pub use_answer : Machine → Pointer → Question → ℕ
use_answer m t q =
    let d = descriptor_of m t.segment in then_ask (use_questions (length m.memory) m.registers.dbr t d) (q d)

-- the first no is the fault's number; its address is the pointer under question
unfoldable pub or_fault : (answer : ℕ) → Pointer → Outcome → Outcome
or_fault zero t x = x
or_fault (suc n) t x = faults (suc n) t

unfoldable pub execute : Machine → Program → Outcome
execute m (fail n t) = faults n t
execute m (finish r) = completes (machine r m.memory)
execute m (halt r) = halts (machine r m.memory)
execute m (look q t f) = or_fault (use_answer m t q) t (execute m (f (descriptor_of m t.segment)))
execute m (read q t f) = or_fault (use_answer m t q) t (execute m (f (descriptor_of m t.segment) (word_at m t)))
execute m (tick p) = execute m p
execute m (write q t v r) = or_fault (use_answer m t q) t (completes (machine r (set m.memory (absolute_address m t) v)))

-- POINTER WORDS, counted once they are read: up to a fault, or all of them
unfoldable pub unless_fault : (answer : ℕ) → (count : ℕ) → ℕ
unless_fault zero c = c
unless_fault (suc n) c = 0

unfoldable pub ticks : Machine → Program → ℕ
ticks m (fail n t) = 0
ticks m (finish r) = 0
ticks m (halt r) = 0
ticks m (look q t f) = unless_fault (use_answer m t q) (ticks m (f (descriptor_of m t.segment)))
ticks m (read q t f) = unless_fault (use_answer m t q) (ticks m (f (descriptor_of m t.segment) (word_at m t)))
ticks m (tick p) = suc (ticks m p)
ticks m (write q t v r) = 0
