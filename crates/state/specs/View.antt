-- The code's state as the model's machine, and what a step's answer says. Assumes nothing: these are definitions.
use Rattle.std.specs.Prelude.{◌≡◌, ℕ, zero, suc, ◌+◌, ◌%◌, ◌≤◌, List, [], ◌∷◌, length, drop, ◌≢◌, slice_index, slice_index_or, Result, Ok, Err}
use Rattle.model.specs.Words as Words
use Rattle.model.specs.Registers as Registers
use Rattle.model.specs.Questions.{Question}
use Rattle.model.specs.Program.{Program, fail, Outcome, faults, completes, halts, execute}
use Rattle.words.specs.View.{as_pointer}
use Rattle.words.specs.declared.descriptor.Descriptor.{Descriptor}
use Rattle.words.specs.declared.pointer.Pointer.{Pointer}
use Rattle.state.specs.declared.Core.{Core}
use Rattle.state.specs.declared.Delivery.{Delivery}
use Rattle.state.specs.declared.End.{End}
use Rattle.state.specs.declared.End.TheVariants.{Completed, Halted, Faulted}
use Rattle.state.specs.declared.After.{After}
use Rattle.segments.specs.Translation.{as_dbr, SegmentRight, CodeRight}
use Rattle.questions.specs.declared.fault.Fault.{Fault}
use Rattle.questions.specs.Numbers.{fault_number}
use Rattle.segments.specs.declared.access.ReadWord.{ReadWord}

-- THE PRS are lent as 24 numbers: the lower byte of the first is RING, SEGNO and WORDNO follow
unfoldable pub pointers_in : (count : ℕ) → (numbers : List ℕ) → List Words.Pointer
pointers_in zero ns = []
pointers_in (suc k) ns = record { ring = slice_index ns 0 % 256; segment = slice_index ns 1; word = slice_index ns 2 } ∷ pointers_in k (drop 3 ns)

unfoldable pub as_pointers : (prs : List ℕ) → List Words.Pointer
as_pointers prs = pointers_in 8 prs

-- the PR of that number, whatever else the registers hold
unfoldable pub pr_of : (prs : List ℕ) → (number : ℕ) → Words.Pointer
pr_of prs k = slice_index_or (as_pointers prs) k Registers.zero_pointer

abbrev pub registers_with : Core → (prs : List Words.Pointer) → Registers.Registers
registers_with c ps = record { a = c.a; dbr = as_dbr c.dbr; ipr = as_pointer c.ipr; prs = ps }

abbrev pub machine_with : Core → (prs : List Words.Pointer) → (memory : List ℕ) → Registers.Machine
machine_with c ps m = record { registers = registers_with c ps; memory = m }

abbrev pub as_registers : Core → (prs : List ℕ) → Registers.Registers
as_registers c prs = registers_with c (as_pointers prs)

abbrev pub as_machine : Core → (prs memory : List ℕ) → Registers.Machine
as_machine c prs m = machine_with c (as_pointers prs) m

abbrev pub as_delivery : Delivery → Registers.Delivery
as_delivery v = record { switch = v.switch; save = v.save; handler = v.handler }

-- registers after a change, whatever the PRs are
pub record Becomes (c : Core) (f : Registers.Registers → Registers.Registers) (x : Core) : Type 0 where
  pub registers_same : (ps : List Words.Pointer) → registers_with x ps ≡ f (registers_with c ps)

-- what 2 and 4 give, as far as a step needs it
pub record Ready (c : Core) (memory : List ℕ) : Type 0 where
  pub dbr_fits : c.dbr.address + c.dbr.length ≤ length memory
  pub ring_within : c.ipr.ring ≤ 7
  pub segment_within : c.ipr.segment.0 ≤ 4095

-- an end, from a machine with an outcome, at the machine that stands then; a fault leaves it as it was
unfoldable pub ended : Registers.Machine → Outcome → End → Registers.Machine → Type 0
ended m o Completed k = o ≡ completes k
ended m o Halted k = o ≡ halts k
ended m o (Faulted n t) k = (o ≡ faults n (as_pointer t)) × (k ≡ m)

-- the answer to a program, from these PRs and memory, with what stands in them then; a code descriptor that was right is right again
pub record Does (c : Core) (code : Descriptor) (ps : List Words.Pointer) (m : List ℕ) (p : Program) (x : After) (ps_now : List Words.Pointer) (m_now : List ℕ) : Type 0 where
  pub ends : ended (machine_with c ps m) (execute (machine_with c ps m) p) x.end (machine_with x.core ps_now m_now)
  pub code_kept : CodeRight code.0 c.ipr.ring (length m) → CodeRight x.code.0 x.core.ipr.ring (length m)

-- the answer to a program that leaves the PRs alone, whatever they are
pub record DoesWithAnyPrs (c : Core) (code : Descriptor) (m : List ℕ) (p : Registers.Registers → Program) (x : After) (m_now : List ℕ) : Type 0 where
  pub does : (ps : List Words.Pointer) → Does c code ps m (p (registers_with c ps)) x ps m_now

-- a step that is complete once IPR has advanced, in the same segment
pub record Completes (c : Core) (code : Descriptor) (x : After) : Type 0 where
  pub completed : x.end ≡ Completed
  pub code_same : x.code ≡ code
  pub core_same : Becomes c Registers.advanced x.core

-- a step that sets registers by f and asks nothing
pub record Finishes (c : Core) (code : Descriptor) (ps : List Words.Pointer) (f : Registers.Registers → Registers.Registers) (x : After) (ps_now : List Words.Pointer) : Type 0 where
  pub completed : x.end ≡ Completed
  pub code_same : x.code ≡ code
  pub ring_same : x.core.ipr.ring ≡ c.ipr.ring
  pub registers_same : registers_with x.core ps_now ≡ Registers.advanced (f (registers_with c ps))

pub record FinishesWithAnyPrs (c : Core) (code : Descriptor) (f : Registers.Registers → Registers.Registers) (x : After) : Type 0 where
  pub finishes : (ps : List Words.Pointer) → Finishes c code ps f x ps

abbrev pub faulted_after : Core → Descriptor → (number : ℕ) → Pointer → After
faulted_after c d n t = record { core = c; code = d; end = Faulted n t }

-- THE REST OF A PROGRAM, once its read, its look or its write is answered, wherever the descriptor was found (02, L7)
unfoldable pub worded_by : Result ReadWord Fault → Words.Pointer → (Words.Descriptor → (word : ℕ) → Program) → Program
worded_by (Err e) t f = fail (fault_number e) t
worded_by (Ok w) t f = f (Words.descriptor_in w.descriptor.0) w.word

unfoldable pub passed_by : Result Descriptor Fault → Words.Pointer → (Words.Descriptor → Program) → Program
passed_by (Err e) t f = fail (fault_number e) t
passed_by (Ok d) t f = f (Words.descriptor_in d.0)

-- the answer to it with any PRs and in any memory, which it leaves alone
pub record DoesAnywhere (c : Core) (code : Descriptor) (p : Registers.Registers → Program) (x : After) : Type 0 where
  pub does : (ps : List Words.Pointer) (m : List ℕ) → Does c code ps m (p (registers_with c ps)) x ps m

-- after a read
abbrev pub DoesAfterRead : Core → Descriptor → Words.Pointer → Result ReadWord Fault → (Registers.Registers → Words.Descriptor → (word : ℕ) → Program) → After → Type 0
DoesAfterRead c code t y f x = DoesAnywhere c code (λ r. worded_by y t (f r)) x

-- the answer to a rest that uses no memory, in any; a code descriptor that was right is right again where `right` holds of the memory's size
pub record DoesInAnyMemory (c : Core) (code : Descriptor) (ps : List Words.Pointer) (p : Program) (right : (size : ℕ) → Type 0) (x : After) (ps_now : List Words.Pointer) : Type 0 where
  pub ends : (m : List ℕ) → ended (machine_with c ps m) (execute (machine_with c ps m) p) x.end (machine_with x.core ps_now m)
  pub code_kept : (size : ℕ) → right size → CodeRight code.0 c.ipr.ring size → CodeRight x.code.0 x.core.ipr.ring size

-- after a look by q: where the descriptor has passed its questions
abbrev pub DoesAfterLook : Core → Descriptor → (prs : List Words.Pointer) → Question → Words.Pointer → Result Descriptor Fault → (Words.Descriptor → Program) → After → (prs_now : List Words.Pointer) → Type 0
DoesAfterLook c code ps q t y f x ps_now = DoesInAnyMemory c code ps (passed_by y t f) (SegmentRight y q) x ps_now

-- after a write that ends a step: a no is the fault's number
pub record DoesAfterWrite (c : Core) (code : Descriptor) (t : Pointer) (answer : ℕ) (x : After) : Type 0 where
  pub refused : (answer ≢ 0) → x ≡ faulted_after c code answer t
  pub written : answer ≡ 0 → Completes c code x
