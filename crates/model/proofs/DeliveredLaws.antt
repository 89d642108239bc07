-- Delivered faults: when, and what they leave; the switch off; a frame put back. Assumes nothing.
use mathlib.Core.Path.{◌≡◌, refl, sym, ◌∙◌, ap, ap₂, subst}
use mathlib.Core.Bool.{Bool, true, false, ◌&&◌, cond, false≢true}
use mathlib.Core.List.{List, [], ◌∷◌, map}
use mathlib.Core.Logic.{◌⊎◌, inl, inr}
use Prim.Native.Nat.{ℕ, zero, suc, ◌+◌, ◌*◌, ◌-◌, ◌/◌, ◌%◌, ◌^◌, ◌≤◌, ◌<◌}
use native.Mathlib.Omega.{arith}
use lib.Dec.{ltb, leb, eqb}
use lib.ListN.{length, get_or, set, take, drop, length-set, length-map}
use lib.Seq.{get_or-set_same, get_or-set_other, take-length}
use borrow.Author.Tests.{ltb-true, lt-ltb, leb-true, le-leb, eqb-true, eq-eqb}
use Rattle.model.specs.Words.{field, Descriptor, descriptor_in, Pointer, pointer_in, pointer_word}
use Rattle.model.specs.Registers.{Dbr, Registers, Delivery, no_delivery, Machine, machine, dbr_in, dbr_word, moved_by, with_ipr}
use Rattle.model.specs.Questions.{ask, then_ask, all, memory_fits, pointer_in_range, delivery_in_range, registers_in_range, rings_at_least, dbr_fits, start_questions, segment_questions, word_questions, may_read, read_questions, part_questions}
use Rattle.model.specs.Program.{Program, Outcome, faults, completes, halts, descriptor_of, absolute_address, word_at, use_answer, or_fault, execute}
use Rattle.model.specs.Reach.{segment_passes}
use Rattle.model.specs.Step.{if_dbr_fits, read_words, registers_in, take_up, restore, step, pointer_words}
use Rattle.model.specs.Deliver.{frame, with_words, can_save, delivers, saved, deliver, step_with}
use Rattle.model.specs.Run.{refused, ran, unless_refused, run_on, run_from, run, traced, trace_on, trace_from, trace}
use Rattle.model.specs.Delivered.{CanDeliver, DeliversWhen, Delivered, EndsWith, with_delivery, without_delivery, FaultEnds, CompletesAsPlain, OffAsPlain, UnsavedAsPlain, FrameHolds, Restores}
use Rattle.model.proofs.BranchLaws.{and_left, and_right, and_both}
use Rattle.model.proofs.WordLaws.{field_within_width, Within, in_range_within, pointer_word_reads_back}
use Rattle.model.proofs.ProgramLaws.{answer_yes, or_fault_yes}
use Rattle.model.proofs.QuestionLaws.{segment_within_memory}
use Rattle.model.proofs.SoundLaws.{passing_fits}
use Rattle.model.proofs.DeliverLaws.{length_with_words, on_delivery}

-- WORDS WRITTEN from an address on
pub with_words_other : (a : ℕ) (ws m : List ℕ) (x : ℕ) → (x < a) ⊎ (a + length ws ≤ x) → get_or (with_words a ws m) x 0 ≡ get_or m x 0
unfolding with_words
with_words_other a [] m x h = refl
with_words_other a (w ∷ ws) m x h = with_words_other (suc a) ws (set m a w) x (later h) ∙ get_or-set_other m a x w 0 (λ e. elsewhere e h)
  where
    later : (x < a) ⊎ (a + suc (length ws) ≤ x) → (x < suc a) ⊎ (suc a + length ws ≤ x)
    later (inl l) = inl (omega arith)
    later (inr l) = inr (omega arith)

    elsewhere : x ≡ a → (x < a) ⊎ (a + suc (length ws) ≤ x) → ⊥
    elsewhere e (inl l) = omega arith
    elsewhere e (inr l) = omega arith

pub with_words_at : (a : ℕ) (ws m : List ℕ) (i : ℕ) → a + length ws ≤ length m → i < length ws → get_or (with_words a ws m) (a + i) 0 ≡ get_or ws i 0
unfolding with_words
with_words_at a [] m i h l = absurd (omega arith)
with_words_at a (w ∷ ws) m zero h l =
    ap (λ x. get_or (with_words (suc a) ws (set m a w)) x 0) (let e : a + 0 ≡ a = omega arith in e)
    ∙ with_words_other (suc a) ws (set m a w) a (inl (omega arith)) ∙ get_or-set_same m a w 0 (omega arith)
with_words_at a (w ∷ ws) m (suc i) h l =
    ap (λ x. get_or (with_words (suc a) ws (set m a w)) x 0) (let e : a + suc i ≡ suc a + i = omega arith in e)
    ∙ with_words_at (suc a) ws (set m a w) i (let z = length-set m a w in omega arith) (omega arith)

-- WHEN
pub delivers_when : DeliversWhen
unfolding delivers can_save segment_passes
delivers_when v m = (
  λ e.
      let s = and_right (eqb v.switch 1) _ e in
      let d = descriptor_of m v.save in
      let l = and_right (eqb (segment_questions (length m.memory) m.registers.dbr v.save d) 0) _ s in
      record {
        switch_on = eqb-true _ _ (and_left (eqb v.switch 1) _ e);
        segment_passes = eqb-true _ _ (and_left (eqb (segment_questions (length m.memory) m.registers.dbr v.save d) 0) _ s);
        long_enough = leb-true _ _ (and_left (leb 13 d.length) _ l);
        write_on = and_right (leb 13 d.length) _ l;
      },
  λ h.
      and_both _ _ (eq-eqb _ _ h.switch_on) (and_both _ _ (eq-eqb _ _ h.segment_passes) (and_both _ _ (le-leb _ _ h.long_enough) h.write_on)),
)

-- WHAT IT LEAVES
frame_length : (n : ℕ) (t : Pointer) (r : Registers) → length r.prs ≡ 8 → length (frame n t r) ≡ 13
unfolding frame
frame_length n t r e = ap (λ l. suc (suc (suc (suc (suc l))))) (length-map r.prs pointer_word ∙ e)

segment_within : (v : Delivery) (m : Machine) → CanDeliver v m → (descriptor_of m v.save).address + 13 ≤ length m.memory
segment_within v m h =
    let x = segment_within_memory _ _ _ _ h.segment_passes in
    let y = h.long_enough in
    omega arith

pub saved_delivers : (v : Delivery) (n : ℕ) (t : Pointer) (m : Machine) → length m.registers.prs ≡ 8 → CanDeliver v m → Delivered v n t m (saved v n t m)
unfolding saved machine
saved_delivers v n t m e h =
    let a = (descriptor_of m v.save).address in
    let l = frame_length n t m.registers e in
    let within = segment_within v m h in
    record {
      registers_same = refl;
      frame_written = λ i q. with_words_at a (frame n t m.registers) m.memory i (omega arith) (omega arith);
      others_same = λ x q. with_words_other a (frame n t m.registers) m.memory x (subst (λ z. (x < a) ⊎ (a + z ≤ x)) (sym l) q);
      size_same = length_with_words a (frame n t m.registers) m.memory;
    }

pub fault_ends : FaultEnds
unfolding step_with deliver
fault_ends v n t m e f = by_test (delivers v m) refl
  where
    by_test : (b : Bool) → delivers v m ≡ b → EndsWith v n t m
    by_test true q = with_delivery {k = saved v n t m} q (rw (f, q)) (saved_delivers v n t m e ((delivers_when v m).0 q))
    by_test false q = without_delivery q (rw (f, q))

pub completes_as_plain : CompletesAsPlain
unfolding step_with deliver
completes_as_plain v m k = (λ e. rw e, λ e. rw e)

-- THE SWITCH OFF
pub unsaved_as_plain : UnsavedAsPlain
unfolding step_with
unsaved_as_plain v m e = on_delivery (λ x. x ≡ step m) v m (step m) refl (λ n t f d. absurd (false≢true (sym e ∙ d)))

off_delivers : (v : Delivery) (m : Machine) → v.switch ≡ 0 → delivers v m ≡ false
unfolding delivers
off_delivers v m e = rw e

pub off_step : (v : Delivery) (m : Machine) → v.switch ≡ 0 → step_with v m ≡ step m
off_step v m e = unsaved_as_plain v m (off_delivers v m e)

module _ (v u : Delivery) (same : (m : Machine) → step_with v m ≡ step_with u m) where
  same_run_from : (b c : ℕ) (m : Machine) → run_from v b c m ≡ run_from u b c m
  unfolding run_from run_on
  same_run_from zero c m = refl
  same_run_from (suc b) c m = ap (λ x. run_on c m x (λ k. run_from v b (suc c) k)) (same m) ∙ by_outcome (step_with u m) (λ k. same_run_from b (suc c) k)
    where
      by_outcome : (x : Outcome) → ((k : Machine) → run_from v b (suc c) k ≡ run_from u b (suc c) k) →
          run_on c m x (λ k. run_from v b (suc c) k) ≡ run_on c m x (λ k. run_from u b (suc c) k)
      by_outcome (faults n t) ih = refl
      by_outcome (halts k) ih = refl
      by_outcome (completes k) ih = ih k

  same_trace_from : (b : ℕ) (m : Machine) → trace_from v b m ≡ trace_from u b m
  unfolding trace_from trace_on
  same_trace_from zero m = refl
  same_trace_from (suc b) m = ap (λ x. trace_on (pointer_words m) x (λ k. trace_from v b k)) (same m) ∙ by_outcome (step_with u m) (λ k. same_trace_from b k)
    where
      by_outcome : (x : Outcome) → ((k : Machine) → trace_from v b k ≡ trace_from u b k) →
          trace_on (pointer_words m) x (λ k. trace_from v b k) ≡ trace_on (pointer_words m) x (λ k. trace_from u b k)
      by_outcome (faults n t) ih = refl
      by_outcome (halts k) ih = refl
      by_outcome (completes k) ih = ap (λ ts. traced k (pointer_words m) ∷ ts) (ih k)

-- 1 to 4 of two deliveries in range are one
pub same_start : (v u : Delivery) → delivery_in_range v ≡ true → delivery_in_range u ≡ true → (m : Machine) → start_questions v m ≡ start_questions u m
unfolding start_questions registers_in_range
same_start v u e f m = rw (e, f)

pub off_as_plain : OffAsPlain
unfolding run trace unless_refused
off_as_plain v b m e f = (
  rw (start) (ap (unless_refused (start_questions no_delivery m) (λ n. ran (refused n) m)) (same_run_from v no_delivery same b 0 m)),
  rw (start) (ap (unless_refused (start_questions no_delivery m) (λ n. [])) (same_trace_from v no_delivery same b m)),
)
  where
    start : start_questions v m ≡ start_questions no_delivery m
    start = same_start v no_delivery f (unfold delivery_in_range in refl) m

    same : (k : Machine) → step_with v k ≡ step_with no_delivery k
    same k = off_step v k e ∙ sym (off_step no_delivery k refl)

-- A FRAME HOLDS REGISTERS
dbr_word_reads_back : (d : Dbr) → d.address ≤ 16777215 → d.length ≤ 4096 → dbr_in (dbr_word d) ≡ d
unfolding dbr_in dbr_word field
dbr_word_reads_back d x y = λ i. record { address = address_same x y i; length = length_same x y i }
  where
    w : ℕ
    w = d.address + 2 ^ 24 * d.length

    address_same : d.address ≤ 16777215 → d.length ≤ 4096 → w / 2 ^ 0 % 2 ^ 24 ≡ d.address
    address_same x y = omega arith

    length_same : d.address ≤ 16777215 → d.length ≤ 4096 → w / 2 ^ 24 % 2 ^ 13 ≡ d.length
    length_same x y = omega arith

pointers_read_back : (ps : List Pointer) → all pointer_in_range ps ≡ true → map pointer_in (map pointer_word ps) ≡ ps
unfolding all
pointers_read_back [] e = refl
pointers_read_back (p ∷ ps) e =
    ap₂ ◌∷◌ (pointer_word_reads_back p (in_range_within p (and_left (pointer_in_range p) (all pointer_in_range ps) e)))
    (pointers_read_back ps (and_right (pointer_in_range p) (all pointer_in_range ps) e))

pub frame_holds : FrameHolds
unfolding registers_in frame dbr_fits
frame_holds v n t m e eight =
    let r = m.registers in
    let fit = passing_fits {W = λ _. Unit {0}} {C = λ _. Unit {0}} v m e tt tt in
    let length_within = leb-true r.dbr.length 4096 (and_left (leb r.dbr.length 4096) _ fit.dbr_fit.fits) in
    let all_prs = ap (map pointer_in) (take_all (map pointer_word r.prs) (length-map r.prs pointer_word ∙ eight)) ∙ pointers_read_back r.prs fit.pointers_fit.prs_in_range in
    λ i. record {
      a = r.a;
      dbr = dbr_word_reads_back r.dbr fit.dbr_fit.address_within length_within i;
      ipr = pointer_word_reads_back r.ipr fit.pointers_fit.ipr_within i;
      prs = all_prs i;
    }
  where
    take_all : (ws : List ℕ) → length ws ≡ 8 → take 8 ws ≡ ws
    take_all ws l = ap (λ n. take n ws) (sym l) ∙ take-length ws

-- THE WORDS OF A PART of a segment, read one by one, are that part
take_drop_more : (xs : List ℕ) (a n : ℕ) → a < length xs → take (suc n) (drop a xs) ≡ get_or xs a 0 ∷ take n (drop (suc a) xs)
take_drop_more [] a n h = absurd (omega arith)
take_drop_more (x ∷ xs) zero n h = refl
take_drop_more (x ∷ xs) (suc a) n h = take_drop_more xs a n (omega arith)

descriptor_length_within : (m : Machine) (s : ℕ) → (descriptor_of m s).length ≤ 65535
unfolding descriptor_of descriptor_in
descriptor_length_within m s = let x = field_within_width 24 16 (get_or m.memory (m.registers.dbr.address + s) 0) in omega arith

module _ (m : Machine) where
  pub words_read : (count : ℕ) (t : Pointer) (f : List ℕ → Program) →
      segment_questions (length m.memory) m.registers.dbr t.segment (descriptor_of m t.segment) ≡ 0 →
      read_questions t (descriptor_of m t.segment) ≡ 0 → t.word + count ≤ (descriptor_of m t.segment).length →
      execute m (read_words count t f) ≡ execute m (f (take count (drop (absolute_address m t) m.memory)))
  unfolding read_words execute absolute_address word_at moved_by read_questions may_read
  words_read zero t f e q l = refl
  words_read (suc c) t f e q l =
      let d = descriptor_of m t.segment in
      let within = segment_within_memory _ _ _ d e in
      or_fault_yes (use_answer m t (read_questions t)) t _ (answer_yes m t (read_questions t) e (omega arith) q)
      ∙ words_read c (moved_by 1 t) _ e q (next_within l)
      ∙ ap (λ ws. execute m (f ws)) (ap (λ x. get_or m.memory (d.address + t.word) 0 ∷ take c (drop x m.memory)) (next_address l) ∙ sym (take_drop_more m.memory (d.address + t.word) c (omega arith)))
    where
      next_within : t.word + suc c ≤ (descriptor_of m t.segment).length → (t.word + 1) % 2 ^ 16 + c ≤ (descriptor_of m t.segment).length
      next_within l = let z = descriptor_length_within m t.segment in omega arith

      next_address : t.word + suc c ≤ (descriptor_of m t.segment).length →
          (descriptor_of m t.segment).address + (t.word + 1) % 2 ^ 16 ≡ suc ((descriptor_of m t.segment).address + t.word)
      next_address l = let z = descriptor_length_within m t.segment in omega arith

-- RCU, where its questions pass
pub restored : (m : Machine) (p : Pointer) → segment_questions (length m.memory) m.registers.dbr p.segment (descriptor_of m p.segment) ≡ 0 →
    read_questions p (descriptor_of m p.segment) ≡ 0 → p.word + 13 ≤ (descriptor_of m p.segment).length →
    execute m (restore (length m.memory) p) ≡ execute m (take_up (length m.memory) p (registers_in (take 13 (drop (absolute_address m p) m.memory))))
unfolding restore execute part_questions word_questions then_ask ask
restored m p e q l =
    or_fault_yes (use_answer m p (part_questions 13 p)) p _
    (answer_yes m p (part_questions 13 p) e (omega arith) (rw (lt-ltb (p.word + 13 - 1) (descriptor_of m p.segment).length (omega arith), q)))
    ∙ words_read m 13 p _ e q l

-- the part of memory that a frame was written to is the frame
part_is_frame : (m : List ℕ) (a n : ℕ) (ws : List ℕ) → length ws ≡ n → a + n ≤ length m → ((i : ℕ) → i < n → get_or m (a + i) 0 ≡ get_or ws i 0) → take n (drop a m) ≡ ws
part_is_frame m a zero [] e h f = refl
part_is_frame m a zero (w ∷ ws) e h f = absurd (omega arith)
part_is_frame m a (suc n) [] e h f = absurd (omega arith)
part_is_frame m a (suc n) (w ∷ ws) e h f =
    take_drop_more m a n (omega arith)
    ∙ ap₂ ◌∷◌ (ap (λ x. get_or m x 0) (omega arith) ∙ f 0 (omega arith))
    (part_is_frame m (suc a) n ws (omega arith) (omega arith) (λ i l. ap (λ x. get_or m x 0) (omega arith) ∙ f (suc i) (omega arith)))

module _ (v : Delivery) (n : ℕ) (t p : Pointer) (m k : Machine) (e : start_questions v m ≡ 0) (eight : length m.registers.prs ≡ 8)
    (can : CanDeliver v m) (h : Delivered v n t m k) (same : descriptor_of k v.save ≡ descriptor_of m v.save) (s : p.segment ≡ v.save)
    (w : p.word ≡ 0) where
  same_segment : descriptor_of k p.segment ≡ descriptor_of m v.save
  same_segment = ap (descriptor_of k) s ∙ same

  frame_passes : segment_questions (length k.memory) k.registers.dbr p.segment (descriptor_of k p.segment) ≡ 0
  unfolding with_ipr
  frame_passes =
      ap₂ (segment_questions (length k.memory) k.registers.dbr) s same_segment
      ∙ ap₂ (λ l b. segment_questions l b v.save (descriptor_of m v.save)) h.size_same (ap (λ (r : Registers). r.dbr) h.registers_same)
      ∙ can.segment_passes

  frame_whole : p.word + 13 ≤ (descriptor_of k p.segment).length
  frame_whole = let z = ap (λ (d : Descriptor). d.length) same_segment in let y = can.long_enough in omega arith

  frame_there : take 13 (drop (absolute_address k p) k.memory) ≡ frame n t m.registers
  unfolding absolute_address
  frame_there =
      ap (λ x. take 13 (drop x k.memory))
      (let z = ap (λ (d : Descriptor). d.address) same_segment in let y : (descriptor_of k p.segment).address + p.word ≡ (descriptor_of m v.save).address = omega arith in y)
      ∙ part_is_frame k.memory (descriptor_of m v.save).address 13 _ (frame_length n t m.registers eight)
      (let z = h.size_same in let y = segment_within v m can in omega arith) h.frame_written

  taken_up : execute k (take_up (length k.memory) p m.registers) ≡ completes (machine m.registers k.memory)
  unfolding take_up if_dbr_fits execute
  taken_up =
      let fit = passing_fits {W = λ _. Unit {0}} {C = λ _. Unit {0}} v m e tt tt in
      rw (subst (λ l. dbr_fits l m.registers.dbr ≡ true) (sym h.size_same) fit.dbr_fit.fits, fit.pointers_fit.rings_kept)

pub restores : Restores
restores v n t p m k e eight d h same s w q =
    let can = (delivers_when v m).0 d in
    restored k p (frame_passes v n t p m k e eight can h same s w) (subst (λ x. read_questions p (descriptor_of k x) ≡ 0) (sym s) q)
    (frame_whole v n t p m k e eight can h same s w)
    ∙ ap (λ r. execute k (take_up (length k.memory) p r))
    (ap registers_in (frame_there v n t p m k e eight can h same s w) ∙ frame_holds v n t m e eight)
    ∙ taken_up v n t p m k e eight can h same s w
