-- Transfers, CALL and RETURN do what their programs say, and the descriptor that they pass on is right for the ring that they enter. Assumes nothing.
use Rattle.std.proofs.Common.{◌≡◌, ℕ, zero, suc, ◌≤◌, Bool, true, false, ◌&&◌, List, [], map, get_or, set, Result, Ok, Err, refl, sym, ap, ◌∙◌, arith, leb, leb-true, le-leb}
use Rattle.model.specs.Words as Words
use Rattle.model.specs.Words.{field, Pointer, descriptor_in}
use Rattle.model.specs.Registers.{Registers, Machine, machine, zero_pointer, pr, with_ipr, with_pr, with_prs, with_ring_at_least}
use Rattle.model.specs.Questions.{Question, segment_questions, may_execute, return_questions, transfer_questions, new_ring, call_questions}
use Rattle.model.specs.Program.{Program, finish, look, execute, descriptor_of}
use Rattle.model.specs.Step as Step
use Rattle.model.specs.Check as Check
use Rattle.model.proofs.BranchLaws.{and_left, and_both}
use Rattle.model.proofs.QuestionLaws.{ask_yes}
use Rattle.words.specs.View.{as_pointer}
use Rattle.words.specs.declared.descriptor.Descriptor.{Descriptor}
use Rattle.words.specs.declared.pointer.Pointer as Code
use Rattle.opcodes.specs.Table.{taken}
use Rattle.questions.specs.declared.fault.Fault.{Fault}
use Rattle.questions.specs.Numbers.{fault_number}
use Rattle.questions.proofs.NumberLaws.{fault_from_one}
use Rattle.segments.specs.Translation.{as_dbr, SegmentRight, descriptor_word, descriptor_answer, looked, CodeRight}
use Rattle.segments.proofs.UseLaws.{looks_passes, use_answer_by}
use Rattle.state.specs.View.{registers_with, Does, DoesWithAnyPrs, Completes, faulted_after, passed_by, DoesInAnyMemory}
use Rattle.state.specs.declared.Core.{Core}
use Rattle.state.specs.declared.After.{After}
use Rattle.state.proofs.DoesLaws.{does_advance, look_answered, after_look_refused, rest_completes}
use Rattle.control.specs.Call.{Enters, CheckedBy}
use Rattle.control.specs.declared.Entry.{Entry}

-- A RIGHT DESCRIPTOR: what 25 or 26 to 30 say of it, with 13
module _ (n w : ℕ) (e : descriptor_answer n w ≡ 0) where
  pub executable_right : (t : Pointer) (k : ℕ) → k ≡ t.ring → may_execute t (descriptor_in w) ≡ true → CodeRight w k n
  unfolding may_execute
  executable_right t k f h = record { passes = e; executable = λ u g. rw (g, f) h }

  brackets_in_order : (descriptor_in w).r1 ≤ (descriptor_in w).r2
  unfolding descriptor_answer segment_questions
  brackets_in_order =
      leb-true _ _ (and_left (leb (descriptor_in w).r1 (descriptor_in w).r2) _ (ask_yes _ _ _ (ask_yes _ _ _ (ask_yes _ _ _ e).1).1).0)

  pub called_right : (ipr t : Pointer) (k : ℕ) → k ≡ new_ring t (descriptor_in w) → call_questions ipr t (descriptor_in w) ≡ 0 → CodeRight w k n
  unfolding call_questions new_ring may_execute
  called_right ipr t k f h =
      let a = ask_yes _ _ _ h in
      let b = ask_yes _ _ _ a.1 in
      let c = ask_yes _ _ _ b.1 in
      let d = descriptor_in w in
      let low : d.r1 ≤ t.ring = leb-true _ _ (ask_yes _ _ _ c.1).0 in
      let order : d.r1 ≤ d.r2 = brackets_in_order in
      let at_least : d.r1 ≤ k = omega (arith, low, order, f) in
      let at_most : k ≤ d.r2 = omega (arith, f) in
      record {
        passes = e;
        executable = λ u g. rw g (and_both d.execute (leb d.r1 k && leb k d.r2) a.0 (and_both (leb d.r1 k) _ (le-leb _ _ at_least) (le-leb _ _ at_most)));
      }

executes : (t : Pointer) (d : Words.Descriptor) → return_questions t d ≡ 0 → may_execute t d ≡ true
unfolding return_questions
executes t d e = (ask_yes _ _ _ e).0

transfer_executes : (ipr t : Pointer) (d : Words.Descriptor) → transfer_questions ipr t d ≡ 0 → may_execute t d ≡ true
unfolding transfer_questions
transfer_executes ipr t d e = executes t d (ask_yes _ _ _ e).1

-- CONTROL ENTERS at p, and that is the rest of the program
module _ (c : Core) (d : Descriptor) (ps : List Pointer) (p : Program) (right : ℕ → Type 0) (u : Code.Pointer) (e : Descriptor) (x : After) (h : Enters c u e x) (ps_now : List Pointer) where
  rest_enters : p ≡ finish (with_ipr (as_pointer u) (registers_with c ps_now)) → ((size : ℕ) → right size → CodeRight e.0 u.ring size) → DoesInAnyMemory c d ps p right x ps_now
  unfolding with_ipr
  rest_enters f k =
      let ring_same : x.core.ipr.ring ≡ u.ring = ap (λ (r : Registers). r.ipr.ring) (h.core_same.registers_same []) in
      rest_completes c d ps p right x _ ps_now h.completed (h.core_same.registers_same ps_now) f (λ size r. rw (h.code_same, ring_same) (k size r))

-- in a segment whose descriptor has passed
module _ (t : Pointer) (y : Result Descriptor Fault) (e : Descriptor) (f : y ≡ Ok e) (u : Code.Pointer) (g : as_pointer u ≡ t) where
  right_there : (q : Question) → (q (descriptor_in e.0) ≡ 0 → may_execute t (descriptor_in e.0) ≡ true) → (size : ℕ) → SegmentRight y q size → CodeRight e.0 u.ring size
  right_there q i size r = executable_right size e.0 (r.right e f) t u.ring (ap (λ (p : Pointer). p.ring) g) (i (r.asked e f))

-- A LOOK has a no
look_refuses : (c : Core) (d : Descriptor) (ps : List Pointer) (m : List ℕ) (t : Pointer) (q : Question) (g : Words.Descriptor → Program) (x : After) (y : Result Descriptor Fault) (e : Fault)
    (u : Code.Pointer) → y ≡ Err e → looked (as_dbr c.dbr) m t q y → x ≡ faulted_after c d (fault_number e) u → as_pointer u ≡ t → Does c d ps m (look q t g) x ps m
look_refuses c d ps m t q g x y e u f s h i = look_answered c d ps m t q y s g x ps (after_look_refused c d ps q t y g x e u f h i)

-- A TRANSFER, taken or not as the code tests it
module _ (c : Core) (d : Descriptor) (m : List ℕ) (t : Pointer) (k : ℕ) (b : Bool) (j : b ≡ taken k c.a) (x : After) where
  pub transfer_not_taken : b ≡ false → Completes c d x → DoesWithAnyPrs c d m (λ r. Step.transfer (taken k c.a) r t) x m
  unfolding Step.transfer execute machine
  transfer_not_taken v h = record { does = λ ps. does_advance c c d ps m m _ x (registers_with c ps) refl h refl (rw (← j, v)) }

  module _ (v : b ≡ true) (y : Result Descriptor Fault) (s : looked (as_dbr c.dbr) m t (transfer_questions (as_pointer c.ipr) t) y) (u : Code.Pointer) (g : as_pointer u ≡ t) where
    pub transfer_refused : (e : Fault) → y ≡ Err e → x ≡ faulted_after c d (fault_number e) u → DoesWithAnyPrs c d m (λ r. Step.transfer (taken k c.a) r t) x m
    unfolding Step.transfer
    transfer_refused e f h = record { does = λ ps. rw (← j, v) (look_refuses c d ps m t _ _ x y e u f s h g) }

    pub transfer_enters : (e : Descriptor) → y ≡ Ok e → Enters c u e x → DoesWithAnyPrs c d m (λ r. Step.transfer (taken k c.a) r t) x m
    unfolding Step.transfer passed_by
    transfer_enters e f h =
        record {
          does = λ ps.
              rw (← j, v)
              (look_answered c d ps m t _ y s _ x ps
              (rest_enters c d ps _ _ u e x h ps (rw (f, g)) (right_there t y e f u g _ (transfer_executes _ t _))));
        }

-- RETURN
module _ (c : Core) (d : Descriptor) (ps : List Pointer) (m : List ℕ) (t : Pointer) (x : After) (y : Result Descriptor Fault) (s : looked (as_dbr c.dbr) m t (return_questions t) y) (u : Code.Pointer)
    (g : as_pointer u ≡ t) where
  pub return_refused : (e : Fault) → y ≡ Err e → x ≡ faulted_after c d (fault_number e) u → Does c d ps m (Step.return (registers_with c ps) t) x ps m
  unfolding Step.return
  return_refused e f h = look_refuses c d ps m t _ _ x y e u f s h g

  pub return_enters : (e : Descriptor) (ps_now : List Pointer) → y ≡ Ok e → ps_now ≡ map (with_ring_at_least t.ring) ps → Enters c u e x →
      Does c d ps m (Step.return (registers_with c ps) t) x ps_now m
  unfolding Step.return passed_by Step.returned with_ipr with_prs
  return_enters e ps_now f z h =
      look_answered c d ps m t _ y s _ x ps_now (rest_enters c d ps _ _ u e x h ps_now (rw (f, g, z)) (right_there t y e f u g _ (executes t _)))

-- CALL'S CHECK
-- what it answers of a machine is the definition's
module _ (m : Machine) (t : Pointer) where
  pub check_faults : (e : Fault) → CheckedBy m.registers.dbr m.memory m.registers.ipr t (Err e) → Check.checked m t ≡ Check.fault (fault_number e) t
  unfolding Check.checked Check.answered
  check_faults e s = ap (λ a. Check.answered a t (new_ring t (descriptor_of m t.segment))) (use_answer_by m t _ ∙ s) ∙ by_number (fault_number e) (fault_from_one e)
    where
      by_number : (k : ℕ) → 1 ≤ k → Check.answered k t (new_ring t (descriptor_of m t.segment)) ≡ Check.fault k t
      by_number zero h = absurd (omega arith)
      by_number (suc k) h = refl

  pub check_passes : (n : Entry) → CheckedBy m.registers.dbr m.memory m.registers.ipr t (Ok n) → Check.checked m t ≡ Check.passes n.ring
  unfolding Check.checked Check.answered descriptor_of descriptor_word
  check_passes n s =
      ap (λ a. Check.answered a t (new_ring t (descriptor_of m t.segment))) (use_answer_by m t _ ∙ looks_passes m.registers.dbr m.memory t _ n.descriptor.0 s.0)
      ∙ ap Check.passes (ap (λ w. new_ring t (descriptor_in w)) (sym s.0.found.same) ∙ sym s.1)

-- CALL, once its check is answered
module _ (c : Core) (d : Descriptor) (ps : List Pointer) (m : List ℕ) (t : Pointer) (x : After) (y : Result Entry Fault) (s : CheckedBy (as_dbr c.dbr) m (as_pointer c.ipr) t y) where
  pub call_refused : (e : Fault) (u : Code.Pointer) → y ≡ Err e → x ≡ faulted_after c d (fault_number e) u → as_pointer u ≡ t → Does c d ps m (Step.call (registers_with c ps) t) x ps m
  unfolding Step.call Step.check_call
  call_refused e u f g h = look_refuses c d ps m t _ _ x (Err e) e u refl (rw f at s) g h

  pub call_enters : (n : Entry) (ps_now : List Pointer) (u : Code.Pointer) → y ≡ Ok n → ps_now ≡ set ps 7 (Step.stack_base c.ipr.ring n.ring (get_or ps 6 zero_pointer)) →
      Enters c u n.descriptor x → as_pointer u ≡ record { ring = n.ring; segment = t.segment; word = t.word } → Does c d ps m (Step.call (registers_with c ps) t) x ps_now m
  unfolding Step.call Step.check_call passed_by Step.called with_ipr with_pr with_prs pr
  call_enters n ps_now u f z h g =
      let k = rw f at s in
      let ring_same : u.ring ≡ n.ring = ap (λ (p : Pointer). p.ring) g in
      look_answered c d ps m t _ (Ok n.descriptor) k.0 _ x ps_now
      (rest_enters c d ps _ _ u n.descriptor x h ps_now (rw (g, z, k.1))
      (λ size r. rw ring_same (called_right size n.descriptor.0 (r.right n.descriptor refl) _ t n.ring k.1 (r.asked n.descriptor refl))))
