-- 01, 'The questions, in order'. A question's number stands beside its test, and only there. Assumes nothing: these are definitions.
use Rattle.std.specs.Prelude.{Bool, true, false, ◌&&◌, ◌||◌, List, [], ◌∷◌, ℕ, zero, suc, ◌+◌, ◌-◌, min, ltb, leb, eqb, length}
use Rattle.model.specs.Words.{Descriptor, Pointer}
use Rattle.model.specs.Registers.{Dbr, Registers, Delivery, Machine}

-- Questions in order answer the number of the first no, or 0 where all have a yes
abbrev pub yes_to_all : ℕ
yes_to_all = 0

unfoldable pub ask : (answer : Bool) → (number rest : ℕ) → ℕ
ask true n x = x
ask false n x = n

-- the rest is asked only where what came before has a yes to all
unfoldable pub then_ask : (before rest : ℕ) → ℕ
then_ask zero x = x
then_ask (suc n) x = suc n

-- questions on a segment are asked of its descriptor
abbrev pub Question : Type 0
Question = Descriptor → ℕ

unfoldable pub all : {A : Type 0} → (A → Bool) → List A → Bool
all f [] = true
all f (x ∷ xs) = f x && all f xs

-- BEFORE A RUN OR STEP

-- 1: has memory at most 16,777,216 words?
unfoldable pub memory_fits : (size : ℕ) → Bool
memory_fits n = leb n 16777216

-- 2: are rings ≤ 7, SEGNO ≤ 4,095, WORDNO ≤ 65,535, DBR ADDRESS ≤ 16,777,215? And the switch ≤ 1, both its segments ≤ 4,095 (02, L4)?
unfoldable pub pointer_in_range : Pointer → Bool
pointer_in_range p = leb p.ring 7 && (leb p.segment 4095 && leb p.word 65535)

unfoldable pub delivery_in_range : Delivery → Bool
delivery_in_range v = leb v.switch 1 && (leb v.save 4095 && leb v.handler 4095)

unfoldable pub registers_in_range : Delivery → Registers → Bool
registers_in_range v r =
    pointer_in_range r.ipr && (all pointer_in_range r.prs && (leb r.dbr.address 16777215 && delivery_in_range v))

-- 3, and 52 of the frame that registers are taken from: is every PR's RING ≥ IPR.RING?
unfoldable pub rings_at_least : (ring : ℕ) → List Pointer → Bool
rings_at_least n ps = all (λ p. leb n p.ring) ps

-- 4, and 34 of the word that DBR is to become: is LENGTH ≤ 4,096 and ADDRESS + LENGTH within memory?
unfoldable pub dbr_fits : (size : ℕ) → Dbr → Bool
dbr_fits n d = leb d.length 4096 && leb (d.address + d.length) n

unfoldable pub start_questions : Delivery → Machine → ℕ
start_questions v m =
    let r = m.registers in
    let size = length m.memory in
    ask (memory_fits size) 1
    (ask (registers_in_range v r) 2 (ask (rings_at_least r.ipr.ring r.prs) 3 (ask (dbr_fits size r.dbr) 4 yes_to_all)))

-- WHENEVER A SEGMENT IS USED

-- 11: SEGNO < DBR LENGTH? 12: V on? 13: R1 ≤ R2 ≤ R3? 14: ADDRESS + LENGTH within memory?
unfoldable pub segment_questions : (size : ℕ) → Dbr → (segment : ℕ) → Question
segment_questions n b s d =
    ask (ltb s b.length) 11
    (ask d.valid 12 (ask (leb d.r1 d.r2 && leb d.r2 d.r3) 13 (ask (leb (d.address + d.length) n) 14 yes_to_all)))

-- 15: WORDNO < LENGTH?
unfoldable pub word_questions : (word : ℕ) → Question
word_questions w d = ask (ltb w d.length) 15 yes_to_all

unfoldable pub use_questions : (size : ℕ) → Dbr → Pointer → Question
use_questions n b p d = then_ask (segment_questions n b p.segment d) (word_questions p.word d)

-- THEN BY USE, of the pointer under question: IPR for a fetch, else TPR

-- the execute bracket, from R1 to R2, with E on
unfoldable pub may_execute : Pointer → Descriptor → Bool
may_execute t d = d.execute && (leb d.r1 t.ring && leb t.ring d.r2)

-- the read bracket, up to R2, with R on
unfoldable pub may_read : Pointer → Descriptor → Bool
may_read t d = d.read && leb t.ring d.r2

-- the write bracket, up to R1, with W on
unfoldable pub may_write : Pointer → Descriptor → Bool
may_write t d = d.write && leb t.ring d.r1

-- 21: E on, R1 ≤ ring ≤ R2?
unfoldable pub fetch_questions : Pointer → Question
fetch_questions t d = ask (may_execute t d) 21 yes_to_all

-- 22: R on, TPR.RING ≤ R2?
unfoldable pub read_questions : Pointer → Question
read_questions t d = ask (may_read t d) 22 yes_to_all

-- 15 of each of so many words from WORDNO on, and so of the last, where word numbers don't go round; then 22
unfoldable pub part_questions : (words : ℕ) → Pointer → Question
part_questions n t d = then_ask (word_questions (t.word + n - 1) d) (read_questions t d)

-- 23: W on, TPR.RING ≤ R1?
unfoldable pub write_questions : Pointer → Question
write_questions t d = ask (may_write t d) 23 yes_to_all

-- 25: E on, R1 ≤ TPR.RING ≤ R2?
unfoldable pub return_questions : Pointer → Question
return_questions t d = ask (may_execute t d) 25 yes_to_all

-- 24: TPR.RING = IPR.RING? Then 25
unfoldable pub transfer_questions : (ipr : Pointer) → Pointer → Question
transfer_questions ipr t d = ask (eqb t.ring ipr.ring) 24 (return_questions t d)

-- CALL's new ring: the smaller of TPR.RING and R2
unfoldable pub new_ring : Pointer → Descriptor → ℕ
new_ring t d = min t.ring d.r2

-- 26: E on? 27: same segment as the instruction, or WORDNO < GATE? 28: TPR.RING ≤ R3? 29: TPR.RING ≥ R1? 30: new ring ≤ IPR.RING?
unfoldable pub call_questions : (ipr : Pointer) → Pointer → Question
call_questions ipr t d =
    ask d.execute 26
    (ask (eqb t.segment ipr.segment || ltb t.word d.gate) 27
    (ask (leb t.ring d.r3) 28 (ask (leb d.r1 t.ring) 29 (ask (leb (new_ring t d) ipr.ring) 30 yes_to_all))))
