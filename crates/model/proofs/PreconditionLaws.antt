-- What a program leaves of one machine, by that machine's own descriptors and words: one law for every program of questions, that never sees an opcode. Assumes nothing.
use mathlib.Core.Path.{◌≡◌, refl}
use Prim.Native.Nat.{ℕ, zero, suc}
use lib.ListN.{set}
use Rattle.model.specs.Words.{Pointer}
use Rattle.model.specs.Registers.{Machine, machine}
use Rattle.model.specs.Program.{Program, fail, finish, halt, look, read, tick, write, Outcome, faults, completes, halts, descriptor_of, absolute_address, word_at, use_answer, or_fault, execute}

module _ (m : Machine) (P : Machine → Type 0) where
  -- every end that the program comes to, each question on the way having a yes, leaves a machine with P
  unfoldable pub Precondition : Program → Type 0
  Precondition (fail n t) = Unit {0}
  Precondition (finish r) = P (machine r m.memory)
  Precondition (halt r) = P (machine r m.memory)
  Precondition (look q t f) = use_answer m t q ≡ 0 → Precondition (f (descriptor_of m t.segment))
  Precondition (read q t f) = use_answer m t q ≡ 0 → Precondition (f (descriptor_of m t.segment) (word_at m t))
  Precondition (tick p) = Precondition p
  Precondition (write q t v r) = use_answer m t q ≡ 0 → P (machine r (set m.memory (absolute_address m t) v))

  abbrev pub LeftHas : Outcome → Type 0
  LeftHas (faults n t) = Unit {0}
  LeftHas (completes k) = P k
  LeftHas (halts k) = P k

  left_has_unless_fault : (n : ℕ) (t : Pointer) (x : Outcome) → (n ≡ 0 → LeftHas x) → LeftHas (or_fault n t x)
  unfolding or_fault
  left_has_unless_fault zero t x f = f refl
  left_has_unless_fault (suc n) t x f = tt

  pub precondition_law : (p : Program) → Precondition p → LeftHas (execute m p)
  unfolding Precondition execute
  precondition_law (fail n t) h = tt
  precondition_law (finish r) h = h
  precondition_law (halt r) h = h
  precondition_law (look q t f) h = left_has_unless_fault (use_answer m t q) t _ (λ e. precondition_law (f _) (h e))
  precondition_law (read q t f) h = left_has_unless_fault (use_answer m t q) t _ (λ e. precondition_law (f _ _) (h e))
  precondition_law (tick p) h = precondition_law p h
  precondition_law (write q t v r) h = left_has_unless_fault (use_answer m t q) t _ h
