-- 01, 'One step': fetch, the effective address, and what each opcode does. Assumes nothing: these are definitions.
use Rattle.std.specs.Prelude.{Bool, ◌||◌, not, cond, List, [], ◌∷◌, map, ℕ, zero, suc, max, eqb, length, get_or, take, drop}
use Rattle.std.proofs.Math.Option.{Option, none, some}
use Rattle.model.specs.Words.{Descriptor, Pointer, pointer_in, indirect_in, Instruction, instruction_in}
use Rattle.model.specs.Registers.{Dbr, Registers, Machine, pr, dbr_in, with_a, with_dbr, with_ipr, with_prs, with_pr, moved_by, with_ring_at_least, advanced}
use Rattle.model.specs.Opcodes.{Access, sets, reads, writes, updates, transfers, calls, returns, loads_dbr, ends_run, restores, Opcode, decoded}
use Rattle.model.specs.Questions.{rings_at_least, dbr_fits, fetch_questions, read_questions, part_questions, write_questions, transfer_questions, return_questions, new_ring, call_questions}
use Rattle.model.specs.Program.{Program, fail, finish, halt, look, read, tick, write, Outcome, execute, ticks}

-- 2. THE EFFECTIVE ADDRESS, TPR. P off: IPR's ring and segment. P on: the PR's segment, in the larger of the two rings
unfoldable pub first_address : Instruction → Registers → Pointer
first_address i r = moved_by i.offset (cond i.p (with_ring_at_least r.ipr.ring (pr r i.prnum)) r.ipr)

-- 3. through a pointer word w read at t: the ring is the largest of TPR's, the pointer's and R1 of the segment that holds the pointer
unfoldable pub next_address : Pointer → Descriptor → (word : ℕ) → Pointer
next_address t d w = with_ring_at_least (max t.ring d.r1) (pointer_in w)

-- while I is on; 31, first: is the pointer word among the instruction's first 64?
unfoldable pub chain : (left : ℕ) → (indirect : Bool) → Pointer → (Pointer → Program) → Program
chain zero i t f = cond i (fail 31 t) (f t)
chain (suc n) i t f = cond i (read (read_questions t) t (λ d w. tick (chain n (indirect_in w) (next_address t d w) f))) (f t)

-- an opcode without an operand forms no address, and what it does asks for none: it is handed IPR
unfoldable pub with_operand : Opcode → Instruction → Registers → (Pointer → Program) → Program
with_operand o i r f = cond o.operand (chain 64 i.i (first_address i r) f) (f r.ipr)

-- CALL: PR7, the stack base, becomes the new ring, word 0, and the segment of the same number; but where the ring stays as IPR's was,
-- PR6's segment (02, L6)
unfoldable pub stack_base : (before ring : ℕ) → (pr6 : Pointer) → Pointer
stack_base b n p = record { ring = n; segment = cond (eqb n b) p.segment n; word = 0 }

unfoldable pub called : (ring : ℕ) → Pointer → Registers → Registers
called n t r = with_ipr (record { ring = n; segment = t.segment; word = t.word }) (with_pr 7 (stack_base r.ipr.ring n (pr r 6)) r)

-- RETURN: IPR becomes TPR, and each PR's RING is raised to at least that
unfoldable pub returned : Pointer → Registers → Registers
returned t r = with_ipr t (with_prs (map (with_ring_at_least t.ring) r.prs) r)

-- 4. PERFORM. A step that does not move control advances IPR
unfoldable pub load : (result : (a word : ℕ) → ℕ) → Registers → Pointer → Program
load f r t = read (read_questions t) t (λ d w. finish (advanced (with_a (f r.a w) r)))

unfoldable pub store : (value : ℕ) → Registers → Pointer → Program
store v r t = write (write_questions t) t v (advanced r)

-- 22, then 23
unfoldable pub update : (result : (word : ℕ) → ℕ) → Registers → Pointer → Program
update f r t = read (read_questions t) t (λ d w. write (write_questions t) t (f w) (advanced r))

-- one not taken asks nothing of the target
unfoldable pub transfer : (taken : Bool) → Registers → Pointer → Program
transfer taken r t = cond taken (look (transfer_questions r.ipr t) t (λ d. finish (with_ipr t r))) (finish (advanced r))

-- CALL is a check, which gives the new ring or the fault, and the move, which takes a passed check's ring (02, L5)
unfoldable pub check_call : (ipr : Pointer) → Pointer → ((ring : ℕ) → Program) → Program
check_call ipr t f = look (call_questions ipr t) t (λ d. f (new_ring t d))

unfoldable pub call : Registers → Pointer → Program
call r t = check_call r.ipr t (λ n. finish (called n t r))

unfoldable pub return : Registers → Pointer → Program
return r t = look (return_questions t) t (λ d. finish (returned t r))

-- 34, after 22: LENGTH ≤ 4,096 and within memory?
unfoldable pub if_dbr_fits : (size : ℕ) → Dbr → Pointer → Program → Program
if_dbr_fits n b t p = cond (dbr_fits n b) p (fail 34 t)

unfoldable pub load_dbr : (size : ℕ) → Registers → Pointer → Program
load_dbr n r t = read (read_questions t) t (λ d w. if_dbr_fits n (dbr_in w) t (finish (advanced (with_dbr (dbr_in w) r))))

-- RCU (02, L4): the words of a frame from TPR on
unfoldable pub read_words : (count : ℕ) → Pointer → (List ℕ → Program) → Program
read_words zero t f = f []
read_words (suc n) t f =
    read (read_questions t) t (λ d w. read_words n (moved_by 1 t) (λ ws. f (w ∷ ws)))

-- the registers in a frame; its number and the address under question are ignored, and so is every I
unfoldable pub registers_in : (frame : List ℕ) → Registers
registers_in ws =
    record { a = get_or ws 2 0; dbr = dbr_in (get_or ws 3 0); ipr = pointer_in (get_or ws 4 0); prs = map pointer_in (take 8 (drop 5 ws)) }

-- 52, after 34: has the frame no PR in a lower ring than its IPR's?
unfoldable pub take_up : (size : ℕ) → Pointer → Registers → Program
take_up n t r = if_dbr_fits n r.dbr t (cond (rings_at_least r.ipr.ring r.prs) (finish r) (fail 52 t))

-- 15 and 22 of all thirteen words come before any is read, so that each reading of one passes, and none goes round
unfoldable pub restore : (size : ℕ) → Pointer → Program
restore n t = look (part_questions 13 t) t (λ d. read_words 13 t (λ ws. take_up n t (registers_in ws)))

unfoldable pub perform : (size : ℕ) → Access → Instruction → Registers → Pointer → Program
perform n (sets f) i r t = finish (advanced (f i t r))
perform n (reads f) i r t = load f r t
perform n (writes f) i r t = store (f i r) r t
perform n (updates f) i r t = update f r t
perform n (transfers f) i r t = transfer (f r.a) r t
perform n calls i r t = call r t
perform n returns i r t = return r t
perform n loads_dbr i r t = load_dbr n r t
perform n ends_run i r t = halt (advanced r)
perform n restores i r t = restore n t

-- 32: opcode in the table? 33: ring 0, if privileged?
unfoldable pub obey : (size : ℕ) → Registers → Instruction → Option Opcode → Program
obey n r i none = fail 32 r.ipr
obey n r i (some o) =
    cond (not o.privileged || eqb r.ipr.ring 0) (with_operand o i r (perform n o.access i r)) (fail 33 r.ipr)

-- 1. FETCH at IPR, then the rest of the step
unfoldable pub step_program : (size : ℕ) → Registers → Program
step_program n r =
    read (fetch_questions r.ipr) r.ipr (λ d w. obey n r (instruction_in w) (decoded (instruction_in w).opcode))

unfoldable pub step : Machine → Outcome
step m = execute m (step_program (length m.memory) m.registers)

-- 02, L2: how many pointer words the step reads, faulting or not
unfoldable pub pointer_words : Machine → ℕ
pointer_words m = ticks m (step_program (length m.memory) m.registers)
