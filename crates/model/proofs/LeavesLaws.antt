-- What holds of the registers and words that a step leaves: one law for every program of questions, that never sees an opcode. Assumes nothing.
use mathlib.Core.Path.{◌≡◌, refl}
use Prim.Native.Nat.{ℕ, zero, suc, ◌+◌, ◌≤◌}
use native.Mathlib.Omega.{arith}
use lib.ListN.{length, get_or, length-set}
use Rattle.model.specs.Words.{Descriptor, descriptor_in, Pointer}
use Rattle.model.specs.Registers.{Registers, Machine, machine}
use Rattle.model.specs.Program.{Program, fail, finish, halt, look, read, tick, write, Outcome, faults, completes, halts, descriptor_of, absolute_address, word_at, use_answer, or_fault, execute}
use Rattle.model.proofs.ListLaws.{EachWord, each_word_set}
use Rattle.model.proofs.WordLaws.{field_within_width}
use Rattle.model.proofs.ProgramLaws.{answer_passes}

pub descriptor_r1_within : (m : Machine) (s : ℕ) → (descriptor_of m s).r1 ≤ 7
unfolding descriptor_of descriptor_in
descriptor_r1_within m s = let x = field_within_width 40 3 (get_or m.memory (m.registers.dbr.address + s) 0) in omega arith

-- W is what is known of words, and P of registers
module _ (W : ℕ → Type 0) (P : Registers → Type 0) where
  -- every end of the program has P and writes a W, if each question on the way has a yes and each word read is a W
  unfoldable pub Leaves : Program → Type 0
  Leaves (fail n t) = Unit {0}
  Leaves (finish r) = P r
  Leaves (halt r) = P r
  Leaves (look q t f) = (d : Descriptor) → d.r1 ≤ 7 → q d ≡ 0 → Leaves (f d)
  Leaves (read q t f) = (d : Descriptor) (w : ℕ) → d.r1 ≤ 7 → W w → q d ≡ 0 → Leaves (f d w)
  Leaves (tick p) = Leaves p
  Leaves (write q t v r) = W v × P r

  -- what a completed step left of a memory of that size
  pub record Left (size : ℕ) (k : Machine) : Type 0 where
    pub registers_have : P k.registers
    pub words_have : EachWord W k.memory
    pub size_kept : length k.memory ≡ size

  pub data OutcomeLeft (size : ℕ) : Outcome → Type 0 where
    nothing_left : {n : ℕ} {t : Pointer} → OutcomeLeft size (faults n t)
    completed_left : {k : Machine} → Left size k → OutcomeLeft size (completes k)
    halted_left : {k : Machine} → Left size k → OutcomeLeft size (halts k)

  left_unless_fault : {size : ℕ} (n : ℕ) (t : Pointer) {x : Outcome} → (n ≡ 0 → OutcomeLeft size x) → OutcomeLeft size (or_fault n t x)
  unfolding or_fault
  left_unless_fault zero t f = f refl
  left_unless_fault (suc n) t f = nothing_left

  pub leaves_law : (m : Machine) → EachWord W m.memory → (p : Program) → Leaves p → OutcomeLeft (length m.memory) (execute m p)
  unfolding Leaves execute machine word_at
  leaves_law m ws (fail n t) h = nothing_left
  leaves_law m ws (finish r) h = completed_left record { registers_have = h; words_have = ws; size_kept = refl }
  leaves_law m ws (halt r) h = halted_left record { registers_have = h; words_have = ws; size_kept = refl }
  leaves_law m ws (look q t f) h =
      left_unless_fault (use_answer m t q) t
      (λ e. leaves_law m ws (f _) (h _ (descriptor_r1_within m t.segment) (answer_passes m t q e).1))
  leaves_law m ws (read q t f) h =
      left_unless_fault (use_answer m t q) t
      (λ e. leaves_law m ws (f _ _) (h _ _ (descriptor_r1_within m t.segment) (ws (absolute_address m t)) (answer_passes m t q e).1))
  leaves_law m ws (tick p) h = leaves_law m ws p h
  leaves_law m ws (write q t v r) h =
      left_unless_fault (use_answer m t q) t
      (λ e.
      completed_left record {
        registers_have = h.1;
        words_have = each_word_set W m.memory (absolute_address m t) v ws h.0;
        size_kept = length-set m.memory (absolute_address m t) v;
      })
