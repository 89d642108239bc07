-- What a list of questions that has a yes to all says of each question, and what 1 to 4 look at. Assumes nothing.
use mathlib.Core.Path.{◌≡◌, refl, ap, subst}
use mathlib.Core.Bool.{Bool, true, false, ◌&&◌}
use mathlib.Core.List.{List}
use Prim.Native.Nat.{ℕ, zero, suc, ◌+◌, ◌≤◌, ◌<◌}
use native.Mathlib.Omega.{arith}
use lib.Dec.{leb}
use lib.ListN.{length}
use borrow.Author.Tests.{ltb-true, leb-true, eqb-true}
use Rattle.model.specs.Words.{Descriptor, Pointer}
use Rattle.model.specs.Registers.{Dbr, Registers, Delivery, machine}
use Rattle.model.specs.Questions.{ask, then_ask, memory_fits, registers_in_range, rings_at_least, dbr_fits, start_questions, segment_questions, word_questions, use_questions, may_execute, may_read, may_write, fetch_questions, read_questions, write_questions, transfer_questions, new_ring, call_questions}
use Rattle.model.proofs.BranchLaws.{and_left, and_right}

pub ask_yes : (b : Bool) (n x : ℕ) → ask b (suc n) x ≡ 0 → (b ≡ true) × (x ≡ 0)
unfolding ask
ask_yes true n x e = (refl, e)
ask_yes false n x e = absurd (let z : suc n ≡ 0 = e in omega arith)

pub ask_both : (b : Bool) (n x : ℕ) → b ≡ true → x ≡ 0 → ask b n x ≡ 0
unfolding ask
ask_both b n x e h = rw e h

pub then_ask_yes : (k x : ℕ) → then_ask k x ≡ 0 → (k ≡ 0) × (x ≡ 0)
unfolding then_ask
then_ask_yes zero x e = (refl, e)
then_ask_yes (suc k) x e = absurd (let z : suc k ≡ 0 = e in omega arith)

pub then_ask_same : {c d x y : ℕ} → c ≡ d → (c ≡ 0 → x ≡ y) → then_ask c x ≡ then_ask d y
unfolding then_ask
then_ask_same {c} {d} {x} {y} p f = subst (λ z. then_ask c x ≡ then_ask z y) p (by_answer c f)
  where
    by_answer : (c : ℕ) → (c ≡ 0 → x ≡ y) → then_ask c x ≡ then_ask c y
    by_answer zero f = f refl
    by_answer (suc c) f = refl

-- 11, 13 and 14
pub segment_known : (n : ℕ) (b : Dbr) (s : ℕ) (d : Descriptor) → segment_questions n b s d ≡ 0 → s < b.length
unfolding segment_questions
segment_known n b s d e = ltb-true _ _ (ask_yes _ _ _ e).0

pub segment_rings : (n : ℕ) (b : Dbr) (s : ℕ) (d : Descriptor) → segment_questions n b s d ≡ 0 → (d.r1 ≤ d.r2) × (d.r2 ≤ d.r3)
unfolding segment_questions
segment_rings n b s d e =
    let x = (ask_yes _ _ _ (ask_yes _ _ _ (ask_yes _ _ _ e).1).1).0 in
    (leb-true _ _ (and_left (leb d.r1 d.r2) _ x), leb-true _ _ (and_right (leb d.r1 d.r2) _ x))

pub segment_within_memory : (n : ℕ) (b : Dbr) (s : ℕ) (d : Descriptor) → segment_questions n b s d ≡ 0 → d.address + d.length ≤ n
unfolding segment_questions
segment_within_memory n b s d e = leb-true _ _ (ask_yes _ _ _ (ask_yes _ _ _ (ask_yes _ _ _ (ask_yes _ _ _ e).1).1).1).0

-- 11 to 14, and 15
pub use_passes_segment : (n : ℕ) (b : Dbr) (p : Pointer) (d : Descriptor) → use_questions n b p d ≡ 0 → segment_questions n b p.segment d ≡ 0
unfolding use_questions
use_passes_segment n b p d e = (then_ask_yes _ _ e).0

pub word_within_segment : (n : ℕ) (b : Dbr) (p : Pointer) (d : Descriptor) → use_questions n b p d ≡ 0 → p.word < d.length
unfolding use_questions word_questions
word_within_segment n b p d e = ltb-true _ _ (ask_yes _ _ _ (then_ask_yes _ _ e).1).0

-- 21: E on and the ring in the execute bracket
pub fetch_bracket : (t : Pointer) (d : Descriptor) → fetch_questions t d ≡ 0 → (d.execute ≡ true) × (t.ring ≤ d.r2)
unfolding fetch_questions may_execute
fetch_bracket t d e =
    let x = (ask_yes _ _ _ e).0 in (
      and_left d.execute (leb d.r1 t.ring && leb t.ring d.r2) x,
      leb-true t.ring d.r2 (and_right (leb d.r1 t.ring) _ (and_right d.execute _ x)),
    )

-- 22: R on and the ring in the read bracket
pub read_bracket : (t : Pointer) (d : Descriptor) → read_questions t d ≡ 0 → (d.read ≡ true) × (t.ring ≤ d.r2)
unfolding read_questions may_read
read_bracket t d e =
    let x = (ask_yes _ _ _ e).0 in (and_left d.read (leb t.ring d.r2) x, leb-true t.ring d.r2 (and_right d.read _ x))

-- 23: W on and the ring in the write bracket
pub write_bracket : (t : Pointer) (d : Descriptor) → write_questions t d ≡ 0 → (d.write ≡ true) × (t.ring ≤ d.r1)
unfolding write_questions may_write
write_bracket t d e =
    let x = (ask_yes _ _ _ e).0 in (and_left d.write (leb t.ring d.r1) x, leb-true t.ring d.r1 (and_right d.write _ x))

-- 24: a transfer keeps the ring
pub transfer_keeps_ring : (ipr t : Pointer) (d : Descriptor) → transfer_questions ipr t d ≡ 0 → t.ring ≡ ipr.ring
unfolding transfer_questions
transfer_keeps_ring ipr t d e = eqb-true _ _ (ask_yes _ _ _ e).0

-- 30: a call does not raise the ring
pub call_ring_at_most : (ipr t : Pointer) (d : Descriptor) → call_questions ipr t d ≡ 0 → new_ring t d ≤ ipr.ring
unfolding call_questions
call_ring_at_most ipr t d e =
    leb-true _ _ (ask_yes _ _ _ (ask_yes _ _ _ (ask_yes _ _ _ (ask_yes _ _ _ (ask_yes _ _ _ e).1).1).1).1).0

-- 1 TO 4 look at memory's size alone
pub asked_by_size : (v : Delivery) (r : Registers) (m k : List ℕ) → length m ≡ length k → start_questions v (machine r m) ≡ start_questions v (machine r k)
unfolding start_questions machine
asked_by_size v r m k e =
    ap
    (λ n. ask (memory_fits n) 1 (ask (registers_in_range v r) 2 (ask (rings_at_least r.ipr.ring r.prs) 3 (ask (dbr_fits n r.dbr) 4 0))))
    e
