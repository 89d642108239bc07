-- RCU: a frame looked at, tested and taken up. Assumes nothing.
use Rattle.std.proofs.Common.{◌≡◌, ℕ, zero, suc, ◌+◌, ◌-◌, ◌≤◌, ◌<◌, Bool, true, false, ◌&&◌, List, [], ◌∷◌, map, length, get_or, set, take, drop, Result, Ok, Err, refl, sym, ap, subst, ◌∙◌, add-one, arith, leb, length-drop, length-take-le, ltb-true, le-leb}
use Rattle.std.proofs.Math.Seq.{take-length, get_or-drop}
use mathlib.Core.Path.{ap₂}
use borrow.Author.Tests.{lt-leb}
use Rattle.model.specs.Words as Words
use Rattle.model.specs.Words.{Pointer, descriptor_in, pointer_in}
use Rattle.model.specs.Registers.{Dbr, Registers, machine, dbr_in}
use Rattle.model.specs.Questions.{all, rings_at_least, dbr_fits, word_questions, part_questions}
use Rattle.model.specs.Program.{Program, finish, fail, faults, completes, execute, descriptor_of, absolute_address}
use Rattle.model.specs.Step as Step
use Rattle.model.proofs.QuestionLaws.{ask_yes, then_ask_yes, use_passes_segment}
use Rattle.model.proofs.DeliveredLaws.{restored}
use Rattle.words.specs.View.{as_pointer, DecodedPointer}
use Rattle.words.specs.declared.descriptor.Descriptor.{Descriptor}
use Rattle.words.specs.declared.pointer.Pointer as Code
use Rattle.segments.specs.Translation.{as_dbr, descriptor_word, use_at, Looks, looked}
use Rattle.questions.specs.declared.fault.Fault.{Fault}
use Rattle.questions.specs.Numbers.{fault_number}
use Rattle.segments.specs.declared.translate.Dbr as CodeDbr
use Rattle.segments.proofs.UseLaws.{look_refused}
use Rattle.state.specs.View.{pointers_in, as_pointers, registers_with, machine_with, ended}
use Rattle.state.specs.declared.Core.{Core}
use Rattle.state.specs.declared.End.TheVariants.{Completed, Faulted}
use Rattle.restore.specs.declared.Settled.{Settled}
use Rattle.restore.specs.Taken.{EndsAs, Taken}

-- THIRTEEN WORDS of memory
pub part_of_memory : (m : List ℕ) (s a x : ℕ) → s ≡ a → a ≡ x → take (s + 13 - s) (drop s m) ≡ take 13 (drop x m)
part_of_memory m s a x e f = ap₂ (λ n a. take n (drop a m)) (let z : s + 13 - s ≡ 13 = omega arith in z) (e ∙ f)

pub part_below : (d i : ℕ) → i + 13 ≤ (descriptor_in d).length → i < 65536
unfolding descriptor_in Words.field
part_below d i h = omega arith

pub ruleset part_of = (part_of_memory, part_below)

-- 52, PR by PR
drop_more : (ws : List ℕ) (k : ℕ) → k < length ws → drop k ws ≡ get_or ws k 0 ∷ drop (suc k) ws
drop_more [] k h = absurd (omega arith)
drop_more (w ∷ ws) zero h = refl
drop_more (w ∷ ws) (suc k) h = drop_more ws k (omega arith)

eight_left : (f : List ℕ) → length f ≡ 13 → take 8 (drop 5 f) ≡ drop 5 f
eight_left f e = ap (λ n. take n (drop 5 f)) (let z = length-drop 5 f in let y : 8 ≡ length (drop 5 f) = omega (arith, z, e) in y) ∙ take-length (drop 5 f)

abbrev pub rest_at_least : (ring k : ℕ) → List ℕ → Bool
rest_at_least n k f = rings_at_least n (map pointer_in (drop k f))

abbrev pub all_at_least : (ring : ℕ) → List ℕ → Bool
all_at_least n f = rings_at_least n (map pointer_in (take 8 (drop 5 f)))

module _ (n : ℕ) (f : List ℕ) (e : length f ≡ 13) where
  pub rings_start : all_at_least n f ≡ rest_at_least n 5 f
  rings_start = ap (λ ws. rings_at_least n (map pointer_in ws)) (eight_left f e)

  module _ (k : ℕ) (h : k < 13) (i : all_at_least n f ≡ rest_at_least n k f) (p : Code.Pointer) (d : DecodedPointer (get_or f k 0) p) where
    one_more : all_at_least n f ≡ (leb n p.ring && rest_at_least n (suc k) f)
    unfolding rings_at_least all
    one_more =
        i ∙ ap (λ ws. rings_at_least n (map pointer_in ws)) (drop_more f k (omega (arith, h, e)))
        ∙ ap (λ (q : Pointer). leb n q.ring && rest_at_least n (suc k) f) (sym d.same)

    pub ring_below : p.ring < n → false ≡ all_at_least n f
    ring_below l = sym (one_more ∙ rw (lt-leb n p.ring l))

    pub ring_at_least : n ≤ p.ring → all_at_least n f ≡ rest_at_least n (k + 1) f
    ring_at_least l = one_more ∙ rw (le-leb n p.ring l, add-one)

  pub rings_end : (k : ℕ) → 13 ≤ k → all_at_least n f ≡ rest_at_least n k f → true ≡ all_at_least n f
  unfolding rings_at_least all
  rings_end k h i = sym (i ∙ ap (λ ws. rings_at_least n (map pointer_in ws)) (drop_all f k (omega (arith, h, e))))
    where
      drop_all : (ws : List ℕ) (k : ℕ) → length ws ≤ k → drop k ws ≡ []
      drop_all [] zero h = refl
      drop_all [] (suc k) h = refl
      drop_all (w ∷ ws) zero h = absurd (omega arith)
      drop_all (w ∷ ws) (suc k) h = drop_all ws k (omega arith)

pub ruleset ring_tests = (rings_start, ring_below, ring_at_least, rings_end)

-- THE PRS TAKEN, one more each turn
unfoldable pub taken_first : (count : ℕ) → (words : List ℕ) → List Pointer → List Pointer
taken_first zero ws ps = ps
taken_first (suc k) ws [] = []
taken_first (suc k) [] (p ∷ ps) = p ∷ ps
taken_first (suc k) (w ∷ ws) (p ∷ ps) = pointer_in w ∷ taken_first k ws ps

pub none_taken : (f : List ℕ) (ps : List Pointer) → ps ≡ taken_first 0 (drop 5 f) ps
unfolding taken_first
none_taken f ps = refl

one_taken : (k : ℕ) (ws : List ℕ) (ps : List Pointer) → k < length ws → set (taken_first k ws ps) k (pointer_in (get_or ws k 0)) ≡ taken_first (suc k) ws ps
unfolding taken_first
one_taken k [] ps h = absurd (omega arith)
one_taken zero (w ∷ ws) [] h = refl
one_taken zero (w ∷ ws) (p ∷ ps) h = refl
one_taken (suc k) (w ∷ ws) [] h = refl
one_taken (suc k) (w ∷ ws) (p ∷ ps) h = ap (λ l. pointer_in w ∷ l) (one_taken k ws ps (omega arith))

pub turn_takes : (k : ℕ) (f : List ℕ) (ps qs us : List Pointer) (p : Code.Pointer) → length f ≡ 13 → k < 8 → qs ≡ taken_first k (drop 5 f) ps →
    DecodedPointer (get_or f (5 + k) 0) p → us ≡ set qs k (as_pointer p) → us ≡ taken_first (k + 1) (drop 5 f) ps
turn_takes k f ps qs us p e h g d j =
    j
    ∙ rw (g, d.same, add-one)
    (ap (λ w. set (taken_first k (drop 5 f) ps) k (pointer_in w)) (sym (get_or-drop 5 f k 0)) ∙ one_taken k (drop 5 f) ps (let z = length-drop 5 f in omega (arith, z, e, h)))

every_taken : (k : ℕ) (ws : List ℕ) (ps : List Pointer) → length ws ≡ length ps → length ps ≤ k → taken_first k ws ps ≡ map pointer_in ws
unfolding taken_first
every_taken zero [] [] e h = refl
every_taken zero [] (p ∷ ps) e h = absurd (omega arith)
every_taken zero (w ∷ ws) [] e h = absurd (omega arith)
every_taken zero (w ∷ ws) (p ∷ ps) e h = absurd (omega arith)
every_taken (suc k) [] [] e h = refl
every_taken (suc k) [] (p ∷ ps) e h = absurd (omega arith)
every_taken (suc k) (w ∷ ws) [] e h = absurd (omega arith)
every_taken (suc k) (w ∷ ws) (p ∷ ps) e h = ap (λ l. pointer_in w ∷ l) (every_taken k ws ps (omega arith) (omega arith))

pub all_taken : (k : ℕ) (f prs : List ℕ) (us : List Pointer) → length f ≡ 13 → 8 ≤ k → us ≡ taken_first k (drop 5 f) (as_pointers prs) → us ≡ map pointer_in (take 8 (drop 5 f))
unfolding as_pointers pointers_in
all_taken k f prs us e h g =
    g ∙ every_taken k (drop 5 f) (as_pointers prs) (let z = length-drop 5 f in omega (arith, z, e)) h ∙ ap (map pointer_in) (sym (eight_left f e))

pub decoded_fits : (w : ℕ) (p : Code.Pointer) → DecodedPointer w p → (p.ring ≤ 255) × (p.segment.0 ≤ 65535) × (p.word.0 ≤ 65535)
decoded_fits w p d =
    let x = d.within.ring_within in
    let y = d.within.segment_within in
    let z = d.within.word_within in (omega (arith, x), omega (arith, y), omega (arith, z))

pub ruleset takes = (none_taken, turn_takes, all_taken, decoded_fits)

-- THE FRAME TAKEN UP: 34, 52, or its registers
executed_34 : (k : Registers) (m : List ℕ) (size : ℕ) (t : Pointer) (r : Registers) → dbr_fits size r.dbr ≡ false →
    execute (machine k m) (Step.take_up size t r) ≡ execute (machine k m) (fail 34 t)
unfolding Step.take_up Step.if_dbr_fits
executed_34 k m size t r e = rw e

executed_52 : (k : Registers) (m : List ℕ) (size : ℕ) (t : Pointer) (r : Registers) → dbr_fits size r.dbr ≡ true → rings_at_least r.ipr.ring r.prs ≡ false →
    execute (machine k m) (Step.take_up size t r) ≡ execute (machine k m) (fail 52 t)
unfolding Step.take_up Step.if_dbr_fits
executed_52 k m size t r e f = rw (e, f)

executed : (k : Registers) (m : List ℕ) (size : ℕ) (t : Pointer) (r : Registers) → dbr_fits size r.dbr ≡ true → rings_at_least r.ipr.ring r.prs ≡ true →
    execute (machine k m) (Step.take_up size t r) ≡ execute (machine k m) (finish r)
unfolding Step.take_up Step.if_dbr_fits
executed k m size t r e f = rw (e, f)

-- HOW A PROGRAM ENDS: a fault, or registers and no write
abbrev pub fault_of : Core → (number : ℕ) → Code.Pointer → Settled
fault_of c n t = record { core = c; end = Faulted n t }

module _ (c : Core) (ps : List Pointer) (m : List ℕ) (p : Program) (x : Settled) where
  ends_fault : (n : ℕ) (t : Code.Pointer) → x ≡ fault_of c n t → execute (machine_with c ps m) p ≡ faults n (as_pointer t) → EndsAs c ps m p x ps m
  unfolding ended
  ends_fault n t e f = rw e (record { ends = (f, refl) })

  ends_complete : (us : List Pointer) (k : Core) → x ≡ record { core = k; end = Completed } → (r : Registers) → registers_with k us ≡ r →
      execute (machine_with c ps m) p ≡ completes (machine r m) → EndsAs c ps m p x us m
  unfolding ended machine
  ends_complete us k e r f g = rw e (record { ends = g ∙ ap (λ z. completes (record { registers = z; memory = m })) (sym f) })

module _ (c : Core) (ps : List Pointer) (size : ℕ) (f : List ℕ) (t : Pointer) (x : Settled) where
  fits_as : (b : Bool) → dbr_fits size (dbr_in (get_or f 3 0)) ≡ b → dbr_fits size (Step.registers_in f).dbr ≡ b
  unfolding Step.registers_in
  fits_as b h = h

  pub frame_unfit : (e : Fault) (u : Code.Pointer) → fault_number e ≡ 34 → dbr_fits size (dbr_in (get_or f 3 0)) ≡ false → x ≡ fault_of c (fault_number e) u → as_pointer u ≡ t → Taken c ps size f t x ps
  unfolding execute machine
  frame_unfit e u g h j k =
      record {
        ends = λ m _.
            ends_fault c ps m _ x (fault_number e) u j
            (executed_34 (registers_with c ps) m size t (Step.registers_in f) (fits_as false h) ∙ rw (g, k));
      }

  module _ (h : dbr_fits size (dbr_in (get_or f 3 0)) ≡ true) (p : Code.Pointer) (d : DecodedPointer (get_or f 4 0) p) (r : Bool) (q : r ≡ all_at_least p.ring f) where
    rings_as : (a : Bool) → r ≡ a → rings_at_least (Step.registers_in f).ipr.ring (Step.registers_in f).prs ≡ a
    unfolding Step.registers_in
    rings_as a e = ap (λ (z : Pointer). rings_at_least z.ring (map pointer_in (take 8 (drop 5 f)))) (sym d.same) ∙ sym q ∙ e

    pub frame_below : (u : Code.Pointer) → r ≡ false → x ≡ fault_of c 52 u → as_pointer u ≡ t → Taken c ps size f t x ps
    unfolding execute machine
    frame_below u j k l =
        record {
          ends = λ m _.
              ends_fault c ps m _ x 52 u k
              (executed_52 (registers_with c ps) m size t (Step.registers_in f) (fits_as true h) (rings_as false j) ∙ rw l);
        }

    pub frame_taken : r ≡ true → (v : CodeDbr.Dbr) → as_dbr v ≡ dbr_in (get_or f 3 0) → (us : List Pointer) → us ≡ map pointer_in (take 8 (drop 5 f)) →
        x ≡ record { core = record { a = get_or f 2 0; dbr = v; ipr = p }; end = Completed } → Taken c ps size f t x us
    unfolding execute machine Step.registers_in
    frame_taken j v g us k e =
        record {
          ends = λ m _.
              ends_complete c ps m _ x us _ e (Step.registers_in f)
              (λ n. record { a = get_or f 2 0; dbr = g n; ipr = d.same n; prs = k n })
              (executed (registers_with c ps) m size t (Step.registers_in f) (fits_as true h) (rings_as true j));
        }

-- WHERE THE FRAME'S LAST WORD IS INSIDE, the frame is there whole
module _ (b : Dbr) (m : List ℕ) (t : Pointer) (d : ℕ) (s : Looks b m t (part_questions 13 t) d) where
  pub frame_within : t.word + 13 ≤ (descriptor_in d).length
  unfolding part_questions word_questions
  frame_within =
      let z = ltb-true (t.word + 13 - 1) (descriptor_in d).length (ask_yes _ _ _ (then_ask_yes _ _ s.asked).0).0 in
      omega (arith, z)

  pub thirteen_words : (f : List ℕ) → f ≡ take 13 (drop ((descriptor_in d).address + t.word) m) → length f ≡ 13
  thirteen_words f g =
      let x = frame_within in
      let z = s.found.fits in
      let l = length-drop ((descriptor_in d).address + t.word) m in
      ap length g ∙ length-take-le 13 (drop ((descriptor_in d).address + t.word) m) (omega (arith, x, z, l))

-- RCU, by what the look has answered
module _ (c : Core) (ps : List Pointer) (m : List ℕ) (t : Pointer) (y : Result Descriptor Fault) (s : looked (as_dbr c.dbr) m t (part_questions 13 t) y) (x : Settled) where
  pub restore_refused : (e : Fault) (u : Code.Pointer) → y ≡ Err e → x ≡ fault_of c (fault_number e) u → as_pointer u ≡ t → EndsAs c ps m (Step.restore (length m) t) x ps m
  unfolding Step.restore
  restore_refused e u f g h = ends_fault c ps m _ x (fault_number e) u g (look_refused (machine_with c ps m) t _ y s _ e f ∙ ap (faults (fault_number e)) (sym h))

  pub restore_taken : (e : Descriptor) → y ≡ Ok e → (f : List ℕ) → f ≡ take 13 (drop ((descriptor_in e.0).address + t.word) m) → (us : List Pointer) →
      Taken c ps (length m) f t x us → EndsAs c ps m (Step.restore (length m) t) x us m
  unfolding use_at absolute_address descriptor_of descriptor_word execute part_questions word_questions
  restore_taken e g f h us k =
      let l : Looks (as_dbr c.dbr) m t (part_questions 13 t) e.0 = rw g at s in
      let d = l.found.same in
      let asked = then_ask_yes _ _ l.asked in
      let whole = ltb-true (t.word + 13 - 1) (descriptor_in e.0).length (ask_yes _ _ _ asked.0).0 in
      let taken = restored (machine_with c ps m) t (use_passes_segment _ _ _ _ l.found.passes) (rw (← d) asked.1)
      (let z = ap (λ w. (descriptor_in w).length) d in omega (arith, z, whole))
      ∙ ap (λ w. execute (machine_with c ps m) (Step.take_up (length m) t (Step.registers_in (take 13 (drop ((descriptor_in w).address + t.word) m))))) (sym d) in
      record { ends = subst (λ z. ended (machine_with c ps m) z x.end (machine_with x.core us m)) (sym taken) (rw (← h) (k.ends m refl).ends) }
