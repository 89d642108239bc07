-- 01, 'Proved cases': the thirteen, each with its input and the answer that 01 states. Assumes nothing: these are definitions.
use Rattle.std.specs.Prelude.{◌≡◌, Bool, false, cond, List, [], ◌∷◌, ℕ, zero, suc, ◌+◌, eqb, get_or, replicate}
use Rattle.std.proofs.Math.Option.{Option, none, some}
use Prim.Native.String.{String}
use Rattle.model.specs.Words.{Pointer, pointer_in, indirect_in, pointer_word}
use Rattle.model.specs.Registers.{Registers, Delivery, no_delivery, Machine, machine, pr, with_pr}
use Rattle.model.specs.Opcodes.{Opcode, LDA, STA, EAP, CALL, RETURN}
use Rattle.model.specs.Program.{Outcome, faults, completes, halts}
use Rattle.model.specs.Step.{step}
use Rattle.model.specs.Run.{single_count}
use Rattle.model.specs.Listing.{ascii, listing, image_text}
use Rattle.model.specs.Convert.{convert}
use Rattle.model.specs.Notation.{pointer, segment, literal, by_pr, indirect_by_pr, indirect_word, storing, image_of}

-- WHAT A CASE CAN CLAIM
pub data Claim : Type 0 where
  -- a pointer word reads as this pointer, I on or off
  word_reads : (word : ℕ) → Pointer → (indirect : Bool) → Claim
  -- the step faults with this number at this pointer
  step_faults : Machine → (number : ℕ) → Pointer → Claim
  -- the step completes, and leaves this IPR, this PR, this A, this word of memory
  ipr_becomes : Machine → Pointer → Claim
  pr_becomes : Machine → (number : ℕ) → Pointer → Claim
  a_becomes : Machine → ℕ → Claim
  word_becomes : Machine → (address value : ℕ) → Claim
  -- a single step answers with so many pointer words, whether it completes or faults
  step_counts : Machine → (pointers : ℕ) → Claim
  -- the run's listing, without and with delivery, and the text of an image; a stored image is converted to this one, or gives this text
  run_lists : (budget : ℕ) → Machine → String → Claim
  delivery_lists : Delivery → (budget : ℕ) → Machine → String → Claim
  image_prints : (bytes : List ℕ) → String → Claim
  image_converts : (bytes new : List ℕ) → Claim

unfoldable pub left_by : {A : Type 0} → (Machine → A) → Outcome → Option A
left_by f (faults n t) = none
left_by f (completes k) = some (f k)
left_by f (halts k) = some (f k)

unfoldable pub Holds : Claim → Type 0
Holds (word_reads w p i) = (pointer_in w ≡ p) × (indirect_in w ≡ i)
Holds (step_faults m n t) = step m ≡ faults n t
Holds (ipr_becomes m p) = left_by (λ k. k.registers.ipr) (step m) ≡ some p
Holds (pr_becomes m n p) = left_by (λ k. pr k.registers n) (step m) ≡ some p
Holds (a_becomes m v) = left_by (λ k. k.registers.a) (step m) ≡ some v
Holds (word_becomes m x v) = left_by (λ k. get_or k.memory x 0) (step m) ≡ some v
Holds (step_counts m n) = single_count no_delivery m ≡ n
Holds (run_lists b m s) = listing no_delivery b m ≡ ascii s
Holds (delivery_lists v b m s) = listing v b m ≡ ascii s
Holds (image_prints bs s) = image_text bs ≡ ascii s
Holds (image_converts bs new) = convert bs ≡ new

-- MACHINES WITH ONE INSTRUCTION to do: A is 7, and the instruction is word 0 of segment 0, which the given ring executes; PR1 is
-- the pointer handed in, and the other PRs are in IPR's ring. Segment 1's words begin at address 3
unfoldable pub about_to_do : (instruction ring : ℕ) → (pr1 : Pointer) → (segment_1 : ℕ) → (words : List ℕ) → Machine
about_to_do i n t d ws =
    let p = pointer n 0 0 in
    machine (record { a = 7; dbr = record { address = 0; length = 2 }; ipr = p; prs = p ∷ t ∷ p ∷ p ∷ p ∷ p ∷ p ∷ p ∷ [] })
    (segment 2 1 n n n "R E V" 0 ∷ d ∷ i ∷ ws)

-- ring and word of TPR, in segment 1, which has four words 10, 11, 12, 13
unfoldable pub about_to : Opcode → (ipr_ring tpr_ring word : ℕ) → (segment_1 : ℕ) → Machine
about_to o n t w d = about_to_do (by_pr o 1) n (pointer t 1 w) d (10 ∷ 11 ∷ 12 ∷ 13 ∷ [])

-- 3 to 6: rings 4 4 6, E on, GATE 2
unfoldable pub gated : ℕ
gated = segment 3 4 4 4 6 "E V" 2

-- 10: ring 2, and a pointer word of RING 1 that leads to segment 0, word 0
unfoldable pub through_pointer : (segment_1 : ℕ) → Machine
through_pointer d = about_to_do (indirect_by_pr EAP 1) 2 (pointer 2 1 0) d (pointer_word (pointer 1 0 0) ∷ [])

-- 11: from ring 1 to ring 4, with PR2 in ring 2 and PR3 in ring 6
unfoldable pub returning : Machine
returning =
    let m = about_to RETURN 1 4 2 (segment 3 4 4 4 4 "E V" 0) in
    machine (with_pr 2 (pointer 2 0 0) (with_pr 3 (pointer 6 0 0) m.registers)) m.memory

-- 12
unfoldable pub case_12_registers : Registers
case_12_registers =
    let p = pointer 4 0 0 in
    record { a = 0; dbr = record { address = 0; length = 6 }; ipr = pointer 4 4 0; prs = p ∷ p ∷ pointer 4 5 0 ∷ pointer 4 3 0 ∷ p ∷ p ∷ p ∷ p ∷ [] }

unfoldable pub case_12_words : List (ℕ × ℕ)
case_12_words =
    (3, segment 32 4 1 1 1 "R W V" 0) ∷ (4, segment 16 8 4 4 4 "R E V" 0) ∷ (5, segment 24 8 1 1 5 "R E V" 1) ∷ (16, literal 7)
    ∷ (17, by_pr CALL 2) ∷ (24, by_pr STA 3) ∷ []

unfoldable pub case_12 : Machine
case_12 = machine case_12_registers (storing case_12_words (replicate 64 0))

-- 13: n pointer words from word 0 of segment 1 up, each leading to the next, and the last to the word 5
unfoldable pub pointers_up : (n word : ℕ) → List ℕ
pointers_up zero w = 5 ∷ []
pointers_up (suc n) w =
    let next = pointer 4 1 (w + 1) in cond (eqb n 0) (pointer_word next) (indirect_word next) ∷ pointers_up n (w + 1)

unfoldable pub through_pointers : (n : ℕ) → Machine
through_pointers n = about_to_do (indirect_by_pr LDA 1) 4 (pointer 4 1 0) (segment 3 (n + 1) 4 4 4 "R V" 0) (pointers_up n 0)

-- THE TABLE
pub record Case : Type 0 where
  pub number : ℕ
  pub claims : List Claim

unfoldable pub case : ℕ → List Claim → Case
case n cs = record { number = n; claims = cs }

unfoldable pub thirteen : List Case
thirteen =
    -- pointer word 40050000 hex is ring 4, segment 5, word 0, I off
    case 1 (word_reads 0x40050000 (pointer 4 5 0) false ∷ [])
    -- LENGTH 0, word 0: 15
    ∷ case 2 (step_faults (about_to LDA 4 4 0 (segment 3 0 4 4 4 "R V" 0)) 15 (pointer 4 1 0) ∷ [])
    -- 3 to 6: rings 4 4 6, E on, GATE 2, from another segment. Ring 5, word 1: new ring 4
    ∷ case 3
    (ipr_becomes (about_to CALL 5 5 1 gated) (pointer 4 1 1)
    ∷ pr_becomes (about_to CALL 5 5 1 gated) 7 (pointer 4 4 0) ∷ [])
    -- ring 5, word 2: 27
    ∷ case 4 (step_faults (about_to CALL 5 5 2 gated) 27 (pointer 5 1 2) ∷ [])
    -- ring 7, word 1: 28
    ∷ case 5 (step_faults (about_to CALL 7 7 1 gated) 28 (pointer 7 1 1) ∷ [])
    -- ring 3, word 1: 29
    ∷ case 6 (step_faults (about_to CALL 3 3 1 gated) 29 (pointer 3 1 1) ∷ [])
    -- rings 2 5 5, IPR ring 3, TPR ring 4, a gate: 30
    ∷ case 7 (step_faults (about_to CALL 3 4 1 (segment 3 4 2 5 5 "E V" 2)) 30 (pointer 4 1 1) ∷ [])
    -- W on, R1 4: ring 4 writes, 5 gives 23
    ∷ case 8
    (word_becomes (about_to STA 4 4 2 (segment 3 4 4 4 4 "W V" 0)) 5 7
    ∷ step_faults (about_to STA 5 5 2 (segment 3 4 4 4 4 "W V" 0)) 23 (pointer 5 1 2) ∷ [])
    -- R on, R2 5: ring 5 reads, 6 gives 22
    ∷ case 9
    (a_becomes (about_to LDA 5 5 2 (segment 3 4 4 5 5 "R V" 0)) 12
    ∷ step_faults (about_to LDA 6 6 2 (segment 3 4 4 5 5 "R V" 0)) 22 (pointer 6 1 2) ∷ [])
    -- ring 2, pointer RING 1 in a segment with R1 3: effective ring 3, W on or off
    ∷ case 10
    (pr_becomes (through_pointer (segment 3 1 3 3 3 "R V" 0)) 5 (pointer 3 0 0)
    ∷ pr_becomes (through_pointer (segment 3 1 3 3 3 "R W V" 0)) 5 (pointer 3 0 0) ∷ [])
    -- RETURN from ring 1 to ring 4: PR rings 2 and 6 become 4 and 6
    ∷ case 11
    (ipr_becomes returning (pointer 4 1 2)
    ∷ pr_becomes returning 2 (pointer 4 0 0)
    ∷ pr_becomes returning 3 (pointer 6 0 0) ∷ [])
    -- a whole run, from its machine and from its image
    ∷ case 12
    (run_lists 9 case_12 "1 4 4 1 0\n2 1 5 0 0\nfault 23 2 4 3 0 0\n"
    ∷ image_prints (image_of 64 case_12_registers case_12_words 9) "1 4 4 1 0\n2 1 5 0 0\nfault 23 2 4 3 0 0\n" ∷ [])
    -- 64 pointer words pass, a 65th gives 31
    ∷ case 13 (a_becomes (through_pointers 64) 5 ∷ step_faults (through_pointers 65) 31 (pointer 4 1 64) ∷ []) ∷ []

-- every claim of every case
unfoldable pub AllHold : List Claim → Type 0
AllHold [] = Unit {0}
AllHold (c ∷ cs) = Holds c × AllHold cs

unfoldable pub CasesHold : List Case → Type 0
CasesHold [] = Unit {0}
CasesHold (c ∷ cs) = AllHold c.claims × CasesHold cs
