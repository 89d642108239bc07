-- Questions on segments answer alike: 11 to 15, and those of each use. Assumes nothing.
use mathlib.Core.Path.{◌≡◌, refl, ◌∙◌, ap}
use mathlib.Core.Bool.{Bool, true, false, ◌&&◌, ◌||◌, not, cond}
use Prim.Native.Nat.{ℕ, zero, suc, ◌+◌, ◌-◌}
use lib.Dec.{ltb, leb, eqb}
use native.Mathlib.Omega.{arith}
use lib.ListN.{length}
use borrow.Author.Tests.{ltb-true, lt-ltb}
use Rattle.model.specs.Words.{field, on, descriptor_in, Pointer}
use Rattle.model.specs.Registers.{Machine}
use Rattle.model.specs.Questions.{ask, then_ask, Question, segment_questions, word_questions, use_questions, may_execute, may_read, may_write, read_questions, part_questions, write_questions, return_questions, transfer_questions, new_ring, call_questions}
use Rattle.model.specs.Program.{Outcome, descriptor_of, absolute_address, word_at, use_answer, or_fault}
use Rattle.reference.specs.Machine as Machine03
use Rattle.reference.specs.Step as Step03
use Rattle.reference.specs.View as View
use Rattle.reference.proofs.TestLaws.{leb_is_not_ltb, ltb_is_not_leb, not_not, ask_is_cond, ask_is_passed, then_ask_is_cond}

-- fields, descriptors and words of both, opened together
unfoldable pub words_opened : Unit {0}
unfolding field on descriptor_in descriptor_of absolute_address word_at Machine03.field Machine03.on Machine03.descriptor Machine03.descriptor_of Machine03.absolute Machine03.word_at
words_opened = tt

pub segment_answer : (m : Machine) (s : ℕ) →
    segment_questions (length m.memory) m.registers.dbr s (descriptor_of m s) ≡ Machine03.segment_refusal (View.regs m.registers) m.memory s
unfolding words_opened segment_questions Machine03.segment_refusal
segment_answer m s =
    let n = length m.memory in
    let b = m.registers.dbr in
    let d = descriptor_of m s in
    let brackets = leb d.r1 d.r2 && leb d.r2 d.r3 in
    ask_is_cond (ltb s b.length) (leb b.length s) 11 (ltb_is_not_leb s b.length)
    (ask_is_cond d.valid (not d.valid) 12 (not_not d.valid)
    (ask_is_cond brackets (not brackets) 13 (not_not brackets)
    (ask_is_cond (leb (d.address + d.length) n) (ltb n (d.address + d.length)) 14 (leb_is_not_ltb (d.address + d.length) n) refl)))

use_equal : (m : Machine) (t : Pointer) →
    use_questions (length m.memory) m.registers.dbr t (descriptor_of m t.segment)
    ≡ Machine03.use_refusal (View.regs m.registers) m.memory (View.place t)
unfolding words_opened word_questions use_questions Machine03.use_refusal
use_equal m t =
    let d = descriptor_of m t.segment in
    rw (segment_answer m t.segment, ask_is_passed (ltb t.word d.length) 15 0) (then_ask_is_cond _ _)

-- 11 to 15, and then the questions of the use
pub answer_equal : (m : Machine) (t : Pointer) (q : Question) →
    use_answer m t q
    ≡ cond (not (eqb (Machine03.use_refusal (View.regs m.registers) m.memory (View.place t)) 0))
    (Machine03.use_refusal (View.regs m.registers) m.memory (View.place t)) (q (descriptor_of m t.segment))
unfolding use_answer
answer_equal m t q = rw (use_equal m t) (then_ask_is_cond _ _)

-- 22
pub read_answer : (m : Machine) (t : Pointer) → use_answer m t (read_questions t) ≡ Step03.pointer_refusal (View.machine m) (View.place t)
unfolding words_opened read_questions may_read Step03.pointer_refusal
read_answer m t =
    let d = descriptor_of m t.segment in rw (answer_equal m t (read_questions t), ask_is_passed (d.read && leb t.ring d.r2) 22 0) refl

-- of a part the model asks 15 of the first word and of the last, 03 of the last
last_alone : (s w l q : ℕ) →
    then_ask (then_ask s (ask (ltb w l) 15 0)) (then_ask (ask (ltb (w + 12) l) 15 0) q) ≡ then_ask (then_ask s (ask (ltb (w + 12) l) 15 0)) q
unfolding then_ask ask
last_alone (suc s) w l q = refl
last_alone zero w l q = by_test (ltb (w + 12) l) refl
  where
    either : (b : Bool) → then_ask (ask b 15 0) 15 ≡ 15
    either true = refl
    either false = refl

    by_test : (t : Bool) → ltb (w + 12) l ≡ t → then_ask (ask (ltb w l) 15 0) (then_ask (ask t 15 0) q) ≡ then_ask (ask t 15 0) q
    by_test true e = rw (lt-ltb w l (let z = ltb-true (w + 12) l e in omega arith)) refl
    by_test false e = either (ltb w l)

abbrev pub last_of_frame : Pointer → Pointer
last_of_frame t = record { ring = t.ring; segment = t.segment; word = t.word + 12 }

pub frame_answer : (m : Machine) (t : Pointer) → use_answer m t (part_questions 13 t) ≡ use_answer m (last_of_frame t) (read_questions (last_of_frame t))
unfolding use_answer use_questions word_questions part_questions read_questions may_read
frame_answer m t =
    let d = descriptor_of m t.segment in
    let last : t.word + 13 - 1 ≡ t.word + 12 = omega arith in
    rw last (last_alone (segment_questions (length m.memory) m.registers.dbr t.segment d) t.word d.length (read_questions t d))

-- 23
pub write_answer : (m : Machine) (t : Pointer) → use_answer m t (write_questions t) ≡ Step03.write_refusal (View.machine m) (View.place t)
unfolding words_opened write_questions may_write Step03.write_refusal Step03.may_write
write_answer m t =
    let d = descriptor_of m t.segment in rw (answer_equal m t (write_questions t), ask_is_passed (d.write && leb t.ring d.r1) 23 0) refl

-- 25
pub return_answer : (m : Machine) (t : Pointer) → use_answer m t (return_questions t) ≡ Step03.return_refusal (View.machine m) (View.place t)
unfolding words_opened return_questions may_execute Step03.return_refusal Step03.may_execute
return_answer m t =
    let d = descriptor_of m t.segment in
    rw (answer_equal m t (return_questions t), ask_is_passed (d.execute && (leb d.r1 t.ring && leb t.ring d.r2)) 25 0) refl

-- 24, 25
pub transfer_answer : (m : Machine) (t : Pointer) →
    use_answer m t (transfer_questions m.registers.ipr t) ≡ Step03.transfer_refusal (View.machine m) (View.place t)
unfolding words_opened transfer_questions return_questions may_execute Step03.transfer_refusal Step03.may_execute
transfer_answer m t =
    let d = descriptor_of m t.segment in
    let i = m.registers.ipr in
    let same = eqb t.ring i.ring in
    rw (answer_equal m t (transfer_questions i t), ask_is_cond same (not same) 24 (not_not same) (ask_is_passed (d.execute && (leb d.r1 t.ring && leb t.ring d.r2)) 25 0)) refl

-- 26 to 30
pub call_answer : (m : Machine) (t : Pointer) →
    use_answer m t (call_questions m.registers.ipr t) ≡ Step03.call_refusal (View.machine m) (View.place t)
unfolding words_opened call_questions new_ring Step03.call_refusal Step03.new_ring
call_answer m t =
    let d = descriptor_of m t.segment in
    let i = m.registers.ipr in
    let gated = eqb t.segment i.segment || ltb t.word d.gate in
    answer_equal m t (call_questions i t)
    ∙ ap (λ z. cond (not (eqb (Machine03.use_refusal (View.regs m.registers) m.memory (View.place t)) 0)) (Machine03.use_refusal (View.regs m.registers) m.memory (View.place t)) z)
    (ask_is_cond d.execute (not d.execute) 26 (not_not d.execute)
    (ask_is_cond gated (not gated) 27 (not_not gated)
    (ask_is_cond (leb t.ring d.r3) (ltb d.r3 t.ring) 28 (leb_is_not_ltb t.ring d.r3)
    (ask_is_cond (leb d.r1 t.ring) (ltb t.ring d.r1) 29 (leb_is_not_ltb d.r1 t.ring)
    (ask_is_cond (leb (new_ring t d) i.ring) (ltb i.ring (new_ring t d)) 30 (leb_is_not_ltb (new_ring t d) i.ring) refl)))))

-- a fault, or what comes after
pub or_fault_view : (k : ℕ) (t : Pointer) (x : Outcome) → View.outcome (or_fault k t x) ≡ Step03.or_fault k (View.place t) (View.outcome x)
unfolding or_fault View.outcome Step03.or_fault
or_fault_view zero t x = refl
or_fault_view (suc k) t x = refl
