-- Each access of the model is what 03 performs for it. Assumes nothing.
use mathlib.Core.Path.{◌≡◌, refl, sym, ◌∙◌, ap, ap₂}
use mathlib.Core.Bool.{Bool, true, false, ◌&&◌, ◌||◌, not, cond}
use mathlib.Core.List.{List, [], ◌∷◌, map, map-map}
use Prim.Native.Nat.{ℕ, zero, suc, ◌+◌}
use lib.Dec.{ltb, leb, eqb, eqb-suc-zero}
use native.Mathlib.Omega.{arith}
use lib.ListN.{length, set, take, drop}
use Rattle.model.specs.Words.{field, Pointer, pointer_in, Instruction}
use Rattle.model.specs.Registers.{Registers, Machine, machine, pr, dbr_in, with_a, with_dbr, with_ipr, with_prs, with_pr, moved_by, with_ring_at_least, advanced}
use Rattle.model.specs.Opcodes.{reads, writes, updates, transfers, calls, returns, loads_dbr, restores}
use Rattle.model.specs.Questions.{rings_at_least, dbr_fits, may_read, read_questions, part_questions, write_questions, new_ring}
use Rattle.model.specs.Program.{Program, fail, execute, word_at, absolute_address, use_answer, descriptor_of}
use Rattle.model.specs.Step.{stack_base, called, returned, load, store, update, transfer, check_call, call, return, if_dbr_fits, load_dbr, registers_in, take_up, restore, perform}
use Rattle.model.proofs.BranchLaws.{cond_rel}
use Rattle.model.proofs.QuestionLaws.{use_passes_segment, word_within_segment}
use Rattle.model.proofs.ProgramLaws.{UsePasses, answer_passes}
use Rattle.model.proofs.DeliveredLaws.{words_read}
use Rattle.reference.specs.Machine as Machine03
use Rattle.reference.specs.Step as Step03
use Rattle.reference.specs.View as View
use Rattle.reference.proofs.TestLaws.{not_not}
use Rattle.reference.proofs.ListLaws.{map_set}
use Rattle.reference.proofs.Address.{pr_view}
use Rattle.reference.proofs.Start.{rings_not_below, dbr_fits_view}
use Rattle.reference.proofs.Uses.{words_opened, read_answer, last_of_frame, frame_answer, write_answer, return_answer, transfer_answer, call_answer, or_fault_view}

-- registers changed and machines of both, opened together
unfoldable pub registers_opened : Unit {0}
unfolding words_opened machine dbr_in with_a with_dbr with_ipr with_prs with_pr moved_by with_ring_at_least advanced stack_base called returned Step03.with_a Step03.with_ipr Step03.with_pr Step03.with_dbr Step03.onward Step03.machine Step03.on_with Step03.stack_segment Step03.called Step03.returned Step03.place
registers_opened = tt

-- RETURN raises each PR's ring
raised_view : (n : ℕ) (ps : List Pointer) → map View.place (map (with_ring_at_least n) ps) ≡ Step03.raised n (map View.place ps)
unfolding with_ring_at_least Step03.raised
raised_view n [] = refl
raised_view n (p ∷ ps) = ap (λ (qs : List Machine03.Place). View.place (with_ring_at_least n p) ∷ qs) (raised_view n ps)

returned_view : (t : Pointer) (r : Registers) → View.regs (returned t r) ≡ Step03.returned (View.place t) (View.regs r)
unfolding registers_opened
returned_view t r i =
    record { a = r.a; base = r.dbr.address; bound = r.dbr.length; ipr = View.place t; prs = raised_view t.ring r.prs i }

pub with_pr_view : (k : ℕ) (p : Pointer) (r : Registers) → View.regs (with_pr k p r) ≡ Step03.with_pr k (View.place p) (View.regs r)
unfolding registers_opened
with_pr_view k p r i =
    record { a = r.a; base = r.dbr.address; bound = r.dbr.length; ipr = View.place r.ipr; prs = map_set View.place r.prs k p i }

called_view : (n : ℕ) (t : Pointer) (r : Registers) → View.regs (called n t r) ≡ Step03.called n (View.place t) (View.regs r)
unfolding registers_opened
called_view n t r =
    ap (λ (q : Machine03.Regs). Step03.with_ipr (record { ring = n; seg = t.segment; at = t.word }) q)
    (with_pr_view 7 (stack_base r.ipr.ring n (pr r 6)) r
    ∙ ap (λ (p : Machine03.Place). Step03.with_pr 7 (record { ring = n; seg = cond (eqb n r.ipr.ring) p.seg n; at = 0 }) (View.regs r)) (pr_view r 6))

-- questions in front of others, of 03's faults
pub or_fault_then : (k c : ℕ) (t : Machine03.Place) (x : Step03.Stepped) →
    Step03.or_fault (cond (not (eqb k 0)) k c) t x ≡ Step03.or_fault k t (Step03.or_fault c t x)
unfolding Step03.or_fault
or_fault_then zero c t x = refl
or_fault_then (suc k) c t x = rw (eqb-suc-zero k)

-- the model asks 11 to 15 of a read and of the write after it, 03 once
or_fault_twice : (u c e : ℕ) (t : Machine03.Place) (x : Step03.Stepped) →
    Step03.or_fault (cond (not (eqb u 0)) u c) t (Step03.or_fault (cond (not (eqb u 0)) u e) t x)
    ≡ Step03.or_fault (cond (not (eqb (cond (not (eqb u 0)) u c) 0)) (cond (not (eqb u 0)) u c) e) t x
unfolding Step03.or_fault
or_fault_twice zero c e t x = sym (or_fault_then c e t x)
or_fault_twice (suc u) c e t x = rw (eqb-suc-zero u, eqb-suc-zero u)

-- what comes after questions matters only where they pass
or_fault_same : {k c : ℕ} (t : Machine03.Place) {x y : Step03.Stepped} → c ≡ k → (k ≡ 0 → x ≡ y) → Step03.or_fault c t x ≡ Step03.or_fault k t y
unfolding Step03.or_fault
or_fault_same {k} t {x} {y} e f = rw e (by_answer k f)
  where
    by_answer : (k : ℕ) → (k ≡ 0 → x ≡ y) → Step03.or_fault k t x ≡ Step03.or_fault k t y
    by_answer zero f = f refl
    by_answer (suc k) f = refl

-- a branch that fails with a number of its own: 34 and 52
or_fail_view : (m : Machine) (b c : Bool) (n k : ℕ) (t : Pointer) (p : Program) (x : Step03.Stepped) → b ≡ not c →
    View.outcome (execute m p) ≡ Step03.or_fault k (View.place t) x →
    View.outcome (execute m (cond b p (fail (suc n) t))) ≡ Step03.or_fault (cond c (suc n) k) (View.place t) x
unfolding execute View.outcome Step03.or_fault
or_fail_view m b true n k t p x e h = rw e refl
or_fail_view m b false n k t p x e h = rw e h

-- the registers in a frame
frame_view : (ws : List ℕ) → View.regs (registers_in ws) ≡ Step03.frame_regs ws
unfolding words_opened registers_in pointer_in dbr_in Step03.place_in_word Step03.frame_regs
frame_view ws i =
    record {
      a = (Step03.frame_regs ws).a;
      base = (Step03.frame_regs ws).base;
      bound = (Step03.frame_regs ws).bound;
      ipr = (Step03.frame_regs ws).ipr;
      prs = map-map View.place pointer_in (take 8 (drop 5 ws)) i;
    }

module _ (m : Machine) (i : Instruction) (t : Pointer) where
  pub reads_view : (f : ℕ → ℕ → ℕ) →
      View.outcome (execute m (perform (length m.memory) (reads f) i m.registers t))
      ≡ Step03.or_fault (Step03.pointer_refusal (View.machine m) (View.place t)) (View.place t)
      (Step03.on_with (Step03.with_a (f m.registers.a (word_at m t)) (View.regs m.registers)) m.memory)
  unfolding registers_opened load store update transfer check_call call return load_dbr perform execute View.outcome
  reads_view f = rw (← (read_answer m t)) (or_fault_view _ t _)

  pub writes_view : (f : Instruction → Registers → ℕ) →
      View.outcome (execute m (perform (length m.memory) (writes f) i m.registers t))
      ≡ Step03.or_fault (Step03.write_refusal (View.machine m) (View.place t)) (View.place t)
      (Step03.on_with (View.regs m.registers) (set m.memory (absolute_address m t) (f i m.registers)))
  unfolding registers_opened load store update transfer check_call call return load_dbr perform execute View.outcome
  writes_view f = rw (← (write_answer m t)) (or_fault_view _ t _)

  pub transfers_view : (f : ℕ → Bool) →
      View.outcome (execute m (perform (length m.memory) (transfers f) i m.registers t))
      ≡ cond (f m.registers.a)
      (Step03.or_fault (Step03.transfer_refusal (View.machine m) (View.place t)) (View.place t)
      (Step03.went (Step03.machine (Step03.with_ipr (View.place t) (View.regs m.registers)) m.memory)))
      (Step03.on_with (View.regs m.registers) m.memory)
  unfolding registers_opened load store update transfer check_call call return load_dbr perform execute View.outcome
  transfers_view f =
      cond_rel (λ p x. View.outcome (execute m p) ≡ x) {b = f m.registers.a} refl (λ _. rw (← (transfer_answer m t)) (or_fault_view _ t _)) (λ _. refl)

  pub calls_view :
      View.outcome (execute m (perform (length m.memory) calls i m.registers t))
      ≡ Step03.or_fault (Step03.call_refusal (View.machine m) (View.place t)) (View.place t)
      (Step03.went (Step03.machine (Step03.called (Step03.new_ring (View.machine m) (View.place t)) (View.place t) (View.regs m.registers)) m.memory))
  unfolding words_opened machine Step03.machine load store update transfer check_call call return load_dbr perform execute View.outcome new_ring Step03.new_ring
  calls_view =
      rw (← (call_answer m t), ← (called_view (new_ring t (descriptor_of m t.segment)) t m.registers)) (or_fault_view _ t _)

  pub returns_view :
      View.outcome (execute m (perform (length m.memory) returns i m.registers t))
      ≡ Step03.or_fault (Step03.return_refusal (View.machine m) (View.place t)) (View.place t)
      (Step03.went (Step03.machine (Step03.returned (View.place t) (View.regs m.registers)) m.memory))
  unfolding machine Step03.machine load store update transfer check_call call return load_dbr perform execute View.outcome
  returns_view = rw (← (return_answer m t), ← (returned_view t m.registers)) (or_fault_view _ t _)

  pub updates_view : (f : ℕ → ℕ) →
      View.outcome (execute m (perform (length m.memory) (updates f) i m.registers t))
      ≡ Step03.or_fault (Step03.change_refusal (View.machine m) (View.place t)) (View.place t)
      (Step03.on_with (View.regs m.registers) (set m.memory (absolute_address m t) (f (word_at m t))))
  unfolding registers_opened load store update transfer check_call call return load_dbr perform execute View.outcome Step03.change_refusal Step03.pointer_refusal Step03.write_refusal Step03.may_write
  updates_view f =
      let u = Machine03.use_refusal (View.regs m.registers) m.memory (View.place t) in
      let d = descriptor_of m t.segment in
      let x = Step03.on_with (View.regs m.registers) (set m.memory (absolute_address m t) (f (word_at m t))) in
      or_fault_view (use_answer m t (read_questions t)) t _
      ∙ ap (λ y. Step03.or_fault (use_answer m t (read_questions t)) (View.place t) y) (or_fault_view (use_answer m t (write_questions t)) t _)
      ∙ ap₂ (λ k l. Step03.or_fault k (View.place t) (Step03.or_fault l (View.place t) x)) (read_answer m t) (write_answer m t)
      ∙ or_fault_twice u (cond (d.read && leb t.ring d.r2) 0 22) (cond (d.write && leb t.ring d.r1) 0 23) (View.place t) x

  pub loads_dbr_view :
      View.outcome (execute m (perform (length m.memory) loads_dbr i m.registers t))
      ≡ Step03.or_fault (Step03.base_refusal (View.machine m) (View.place t)) (View.place t)
      (Step03.on_with (Step03.with_dbr (field 0 24 (word_at m t)) (field 24 13 (word_at m t)) (View.regs m.registers)) m.memory)
  unfolding registers_opened load_dbr if_dbr_fits perform execute View.outcome Step03.base_refusal Step03.or_fault
  loads_dbr_view =
      let w = word_at m t in
      let k = Step03.pointer_refusal (View.machine m) (View.place t) in
      let size = length m.memory in
      let long = ltb 4096 (field 24 13 w) || ltb size (field 0 24 w + field 24 13 w) in
      let x = Step03.on_with (Step03.with_dbr (field 0 24 w) (field 24 13 w) (View.regs m.registers)) m.memory in
      or_fault_view (use_answer m t (read_questions t)) t _
      ∙ ap₂ (λ c y. Step03.or_fault c (View.place t) y) (read_answer m t)
      (or_fail_view m (dbr_fits size (dbr_in w)) long 33 0 t _ x (dbr_fits_view size (dbr_in w)) refl)
      ∙ sym (or_fault_then k (cond long 34 0) (View.place t) x)

  -- RCU: where its questions pass, the words read one by one are the frame (`words_read`)
  taken_view : (r : Registers) →
      View.outcome (execute m (take_up (length m.memory) t r))
      ≡ Step03.or_fault (Step03.regs_refusal (length m.memory) (View.regs r)) (View.place t) (Step03.went (Step03.machine (View.regs r) m.memory))
  unfolding machine take_up if_dbr_fits execute View.outcome Step03.machine Step03.or_fault Step03.regs_refusal
  taken_view r =
      let size = length m.memory in
      let long = ltb 4096 r.dbr.length || ltb size (r.dbr.address + r.dbr.length) in
      let rings = Machine03.rings_from r.ipr.ring (map View.place r.prs) in
      let x = Step03.went (Step03.machine (View.regs r) m.memory) in
      or_fail_view m (dbr_fits size r.dbr) long 33 (cond (not rings) 52 0) t _ x (dbr_fits_view size r.dbr)
      (or_fail_view m (rings_at_least r.ipr.ring r.prs) (not rings) 51 0 t _ x (rings_not_below r.ipr.ring r.prs ∙ not_not rings) refl)

  pub restores_view :
      View.outcome (execute m (perform (length m.memory) restores i m.registers t))
      ≡ Step03.or_fault (Step03.frame_refusal (View.machine m) (View.place t)) (View.place t)
      (Step03.went (Step03.machine (Step03.frame_regs (Step03.frame_at (View.machine m) (View.place t))) m.memory))
  unfolding words_opened restore perform execute UsePasses read_questions may_read Step03.frame_at Step03.frame_refusal
  restores_view =
      let last = last_of_frame t in
      let n = length m.memory in
      let d = descriptor_of m t.segment in
      let ws = take 13 (drop (absolute_address m t) m.memory) in
      or_fault_view (use_answer m t (part_questions 13 t)) t _
      ∙ or_fault_same (View.place t) (frame_answer m t)
      (λ e.
      let passes = answer_passes m last (read_questions last) e in
      let within = word_within_segment n m.registers.dbr last d passes.0 in
      ap View.outcome (words_read m 13 t (λ ws. take_up n t (registers_in ws)) (use_passes_segment n m.registers.dbr last d passes.0) passes.1 (omega arith)) ∙ taken_view (registers_in ws))
      ∙ ap₂ (λ k r. Step03.or_fault k (View.place t) (Step03.or_fault (Step03.regs_refusal n r) (View.place t) (Step03.went (Step03.machine r m.memory))))
      (read_answer m last) (frame_view ws)
      ∙ sym (or_fault_then (Step03.pointer_refusal (View.machine m) (View.place last)) _ (View.place t) _)
