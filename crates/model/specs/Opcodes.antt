-- 01, 'One step': the one table of the opcodes, with each one's operand, privilege and accesses. Assumes nothing: these are definitions.
use Rattle.std.specs.Prelude.{Bool, true, false, cond, List, [], ◌∷◌, ℕ, zero, suc, ◌+◌, ◌*◌, ◌-◌, ◌/◌, ◌%◌, ◌^◌, leb, eqb}
use Rattle.std.proofs.Math.Option.{Option, none, some}
use Rattle.model.specs.Words.{Pointer, pointer_word, Instruction}
use Rattle.model.specs.Registers.{Registers, pr, with_a, with_pr}

-- what an opcode does with its operand: the access, and what follows from it
pub data Access : Type 0 where
  -- no access: registers become what instruction and TPR make of them
  sets : (Instruction → Pointer → Registers → Registers) → Access
  -- read: A becomes what A and the word give
  reads : ((a word : ℕ) → ℕ) → Access
  -- write: the word that instruction and registers give
  writes : (Instruction → Registers → ℕ) → Access
  -- read, then write back
  updates : ((word : ℕ) → ℕ) → Access
  -- transfer, taken as A tells
  transfers : ((a : ℕ) → Bool) → Access
  calls : Access
  returns : Access
  -- read: DBR becomes the word
  loads_dbr : Access
  ends_run : Access
  -- read thirteen words: A, DBR, IPR and the PRs become theirs (02, L4)
  restores : Access

pub record Opcode : Type 0 where
  pub number : ℕ
  pub operand : Bool
  pub privileged : Bool
  pub access : Access

-- A'S OPERATIONS
-- f of the bits of a and b, bit by bit
unfoldable pub bitwise : (bits : ℕ) → (f : ℕ → ℕ → ℕ) → (a b : ℕ) → ℕ
bitwise zero f a b = 0
bitwise (suc n) f a b = f (a % 2) (b % 2) + 2 * bitwise n f (a / 2) (b / 2)

-- the sum of the bits
unfoldable pub count_of_ones : (bits word : ℕ) → ℕ
count_of_ones zero w = 0
count_of_ones (suc n) w = w % 2 + count_of_ones n (w / 2)

unfoldable pub sum : (a word : ℕ) → ℕ
sum a w = (a + w) % 2 ^ 64

unfoldable pub difference : (a word : ℕ) → ℕ
difference a w = (a + 2 ^ 64 - w) % 2 ^ 64

-- THE TABLE
abbrev pub unprivileged : (number : ℕ) → Access → Opcode
unprivileged n k = record { number = n; operand = true; privileged = false; access = k }

unfoldable pub LDA : Opcode
LDA = unprivileged 1 (reads (λ a w. w))

unfoldable pub STA : Opcode
STA = unprivileged 2 (writes (λ i r. r.a))

unfoldable pub ADA : Opcode
ADA = unprivileged 3 (reads sum)

unfoldable pub SBA : Opcode
SBA = unprivileged 4 (reads difference)

unfoldable pub ANA : Opcode
ANA = unprivileged 5 (reads (bitwise 64 (λ x y. x * y)))

unfoldable pub ORA : Opcode
ORA = unprivileged 6 (reads (bitwise 64 (λ x y. x + y - x * y)))

unfoldable pub XRA : Opcode
XRA = unprivileged 7 (reads (bitwise 64 (λ x y. (x + y) % 2)))

unfoldable pub CNT : Opcode
CNT = unprivileged 8 (reads (λ a w. count_of_ones 64 w))

unfoldable pub AOS : Opcode
AOS = unprivileged 9 (updates (λ w. sum w 1))

unfoldable pub LDI : Opcode
LDI = record { number = 10; operand = false; privileged = false; access = sets (λ i t r. with_a i.lit r) }

unfoldable pub EAP : Opcode
EAP = unprivileged 16 (sets (λ i t r. with_pr i.reg t r))

unfoldable pub SPP : Opcode
SPP = unprivileged 17 (writes (λ i r. pointer_word (pr r i.reg)))

unfoldable pub TRA : Opcode
TRA = unprivileged 24 (transfers (λ a. true))

unfoldable pub TZE : Opcode
TZE = unprivileged 25 (transfers (λ a. eqb a 0))

-- bit 63 of A on: a word is below 2^64
unfoldable pub TMI : Opcode
TMI = unprivileged 26 (transfers (λ a. leb (2 ^ 63) a))

unfoldable pub CALL : Opcode
CALL = unprivileged 32 calls

unfoldable pub RETURN : Opcode
RETURN = unprivileged 33 returns

unfoldable pub LDBR : Opcode
LDBR = record { number = 40; operand = true; privileged = true; access = loads_dbr }

unfoldable pub HLT : Opcode
HLT = record { number = 41; operand = false; privileged = true; access = ends_run }

-- 02, L4: restore control unit
unfoldable pub RCU : Opcode
RCU = record { number = 42; operand = true; privileged = true; access = restores }

unfoldable pub opcodes : List Opcode
opcodes =
    LDA ∷ STA ∷ ADA ∷ SBA ∷ ANA ∷ ORA ∷ XRA ∷ CNT ∷ AOS ∷ LDI ∷ EAP ∷ SPP ∷ TRA ∷ TZE ∷ TMI ∷ CALL ∷ RETURN ∷ LDBR ∷ HLT ∷ RCU ∷ []

-- the entry of that number, if the list has one
unfoldable pub entry : (number : ℕ) → List Opcode → Option Opcode
entry n [] = none
entry n (o ∷ os) = cond (eqb n o.number) (some o) (entry n os)

unfoldable pub decoded : (number : ℕ) → Option Opcode
decoded n = entry n opcodes
