-- A completed step of 01's leaves registers and memory that pass 1 to 4 again, in 64-bit words: a line an access. Assumes nothing.
use mathlib.Core.Path.{◌≡◌, refl, sym, ◌∙◌, ap, subst}
use mathlib.Core.Bool.{Bool, true, ◌||◌, not}
use mathlib.Core.List.{List, [], ◌∷◌, map}
use mathlib.Core.Option.{Option, none, some}
use Prim.Native.Nat.{ℕ, zero, suc, ◌^◌, ◌≤◌, ◌<◌}
use native.Mathlib.Omega.{arith}
use lib.Dec.{leb, eqb, lit≤}
use lib.ListN.{length, get_or, take, drop, length-map, length-drop}
use lib.Seq.{length-take-le}
use borrow.Author.Tests.{leb-true, le-leb}
use Rattle.model.specs.Words.{Descriptor, Pointer, pointer_in, Instruction, instruction_in}
use Rattle.model.specs.Registers.{Registers, Delivery, Machine, dbr_in, moved_by, with_ring_at_least, with_ipr}
use Rattle.model.specs.Opcodes.{Access, sets, reads, writes, updates, transfers, calls, returns, loads_dbr, ends_run, restores, Opcode}
use Rattle.model.specs.Questions.{memory_fits, pointer_in_range, delivery_in_range, registers_in_range, rings_at_least, dbr_fits, start_questions, ask, new_ring, all}
use Rattle.model.specs.Program.{Program}
use Rattle.model.specs.Step.{first_address, next_address, chain, with_operand, stack_base, called, load, store, update, transfer, check_call, call, return, if_dbr_fits, load_dbr, read_words, registers_in, take_up, restore, perform, obey, step_program, step}
use Rattle.model.proofs.BranchLaws.{cond_holds, and_left, and_right, and_both}
use Rattle.model.proofs.WordLaws.{field_within_width, Within, in_range_within, within_in_range, pointer_in_within}
use Rattle.model.proofs.QuestionLaws.{ask_yes, transfer_keeps_ring, call_ring_at_most}
use Rattle.model.proofs.TableLaws.{IfThere, decoded_has}
use Rattle.model.proofs.LeavesLaws.{Leaves, Left, OutcomeLeft, leaves_law}
use Rattle.model.proofs.FitLaws.{DbrFit, Fit, Formed, moved_within, raised_within, pr_within, fit_with_a, fit_with_dbr, fit_with_ipr, fit_advanced, fit_called, fit_returned}
use Rattle.model.proofs.ListLaws.{EachWord}
use Rattle.model.proofs.KeepsLaws.{KeepsFit, table_keeps_fit}

-- THE ADDRESS
module _ {W C : ℕ → Type 0} (word : (v : ℕ) → v < 2 ^ 64 → W v) (eight : C 8) {n : ℕ} {r : Registers} (h : Fit W C n r) where
  pub first_address_formed : (i : Instruction) → Formed r (first_address i r)
  unfolding first_address moved_by with_ring_at_least
  first_address_formed i =
      cond_holds (λ p. Formed r (moved_by i.offset p)) i.p
      (λ _. record { within = moved_within i.offset _ (raised_within _ _ ipr.ring_within (pr_within h i.prnum)); ring_at_least = omega arith })
      (λ _. record { within = moved_within i.offset _ ipr; ring_at_least = omega arith })
    where
      ipr : Within r.ipr
      ipr = h.pointers_fit.ipr_within

  pub next_address_formed : (t : Pointer) (d : Descriptor) (w : ℕ) → d.r1 ≤ 7 → Formed r t → Formed r (next_address t d w)
  unfolding next_address with_ring_at_least
  next_address_formed t d w l g =
      let x = g.within.ring_within in
      let y = g.ring_at_least in
      record { within = raised_within _ (pointer_in w) (omega arith) (pointer_in_within w); ring_at_least = omega arith }

  chain_leaves : (f : Pointer → Program) → ((t : Pointer) → Formed r t → Leaves W (Fit W C n) (f t)) →
      (left : ℕ) (i : Bool) (t : Pointer) → Formed r t → Leaves W (Fit W C n) (chain left i t f)
  unfolding chain Leaves
  chain_leaves f k zero i t g = cond_holds (Leaves W (Fit W C n)) i (λ _. tt) (λ _. k t g)
  chain_leaves f k (suc l) i t g =
      cond_holds (Leaves W (Fit W C n)) i (λ _ d w b e q. chain_leaves f k l _ _ (next_address_formed t d w b g)) (λ _. k t g)

  operand_leaves : (o : Opcode) (i : Instruction) (f : Pointer → Program) → ((t : Pointer) → Formed r t → Leaves W (Fit W C n) (f t)) →
      Leaves W (Fit W C n) (with_operand o i r f)
  unfolding with_operand
  operand_leaves o i f k =
      cond_holds (Leaves W (Fit W C n)) o.operand (λ _. chain_leaves f k 64 _ _ (first_address_formed i))
      (λ _. k r.ipr (record { within = h.pointers_fit.ipr_within; ring_at_least = omega arith }))

  -- THE ACCESSES
  loaded_dbr_fit : (w : ℕ) → dbr_fits n (dbr_in w) ≡ true → DbrFit n (dbr_in w)
  unfolding dbr_in
  loaded_dbr_fit w e = let x = field_within_width 0 24 w in record { address_within = omega arith; fits = e }

  call_fits : (t : Pointer) (d : Descriptor) → Formed r t → new_ring t d ≤ r.ipr.ring → Fit W C n (called (new_ring t d) t r)
  unfolding called stack_base new_ring
  call_fits t d g l =
      let x = g.within.ring_within in
      fit_called h 7 _ _
      (record {
        ring_within = omega arith;
        segment_within = cond_holds (λ s. s ≤ 4095) (eqb _ r.ipr.ring) (λ _. (pr_within h 6).segment_within) (λ _. omega arith);
        word_within = omega arith;
      })
      (record { ring_within = omega arith; segment_within = g.within.segment_within; word_within = g.within.word_within }) (omega arith) l

  transfer_fits : (t : Pointer) → Formed r t → t.ring ≡ r.ipr.ring → Fit W C n (with_ipr t r)
  transfer_fits t g e =
      fit_with_ipr h t g.within (subst (λ k. rings_at_least k r.prs ≡ true) (sym e) h.pointers_fit.rings_kept)

  -- the words of a frame, as many as were asked for
  words_leave : (count : ℕ) (t : Pointer) (f : List ℕ → Program) → ((ws : List ℕ) → length ws ≡ count → EachWord W ws → Leaves W (Fit W C n) (f ws)) →
      Leaves W (Fit W C n) (read_words count t f)
  unfolding read_words Leaves
  words_leave zero t f k = k [] refl (λ x. word 0 (lit≤ tt))
  words_leave (suc c) t f k = λ d w b e q. words_leave c _ _ (λ ws l g. k (w ∷ ws) (ap suc l) (each_more w ws e g))
    where
      each_more : (w : ℕ) (ws : List ℕ) → W w → EachWord W ws → EachWord W (w ∷ ws)
      each_more w ws e g zero = e
      each_more w ws e g (suc x) = g x

  pointers_in_range : (ws : List ℕ) → all pointer_in_range (map pointer_in ws) ≡ true
  unfolding all
  pointers_in_range [] = refl
  pointers_in_range (w ∷ ws) = and_both (pointer_in_range (pointer_in w)) _ (within_in_range _ (pointer_in_within w)) (pointers_in_range ws)

  prs_of_frame : (ws : List ℕ) → length ws ≡ 13 → length (map pointer_in (take 8 (drop 5 ws))) ≡ 8
  prs_of_frame ws l = length-map (take 8 (drop 5 ws)) pointer_in ∙ length-take-le 8 (drop 5 ws) (let z = length-drop 5 ws in omega arith)

  taken_leaves : (t : Pointer) (ws : List ℕ) → length ws ≡ 13 → EachWord W ws → Leaves W (Fit W C n) (take_up n t (registers_in ws))
  unfolding take_up registers_in if_dbr_fits Leaves
  taken_leaves t ws l e =
      let ipr = pointer_in (get_or ws 4 0) in
      let prs = map pointer_in (take 8 (drop 5 ws)) in
      cond_holds (Leaves W (Fit W C n)) (dbr_fits n (dbr_in (get_or ws 3 0)))
      (λ fits.
      cond_holds (Leaves W (Fit W C n)) (rings_at_least ipr.ring prs)
      (λ kept.
      record {
        a_has = e 2;
        dbr_fit = loaded_dbr_fit (get_or ws 3 0) fits;
        pointers_fit =
            record {
              ipr_within = pointer_in_within (get_or ws 4 0);
              prs_in_range = pointers_in_range (take 8 (drop 5 ws));
              rings_kept = kept;
              prs_count = subst C (sym (prs_of_frame ws l)) eight;
            };
      }) (λ _. tt)) (λ _. tt)

  perform_leaves : (k : Access) → KeepsFit W C k → (w : ℕ) (t : Pointer) → Formed r t → Leaves W (Fit W C n) (perform n k (instruction_in w) r t)
  unfolding load store update transfer check_call call return if_dbr_fits load_dbr restore perform Leaves KeepsFit
  perform_leaves (sets f) s w t g = fit_advanced (s n w t r h g)
  perform_leaves (reads f) s w t g = λ d v b e q. fit_advanced (fit_with_a h _ (s r.a v e))
  perform_leaves (writes f) s w t g = (s n (instruction_in w) r h, fit_advanced h)
  perform_leaves (updates f) s w t g = λ d v b e q. (s v, fit_advanced h)
  perform_leaves (transfers f) s w t g =
      cond_holds (Leaves W (Fit W C n)) (f r.a) (λ _ d b q. transfer_fits t g (transfer_keeps_ring r.ipr t d q)) (λ _. fit_advanced h)
  perform_leaves calls s w t g = λ d b q. call_fits t d g (call_ring_at_most r.ipr t d q)
  perform_leaves returns s w t g = λ d b q. fit_returned h t g.within
  perform_leaves loads_dbr s w t g =
      λ d v b e q.
      cond_holds (Leaves W (Fit W C n)) (dbr_fits n (dbr_in v)) (λ l. fit_advanced (fit_with_dbr h (dbr_in v) (loaded_dbr_fit v l))) (λ _. tt)
  perform_leaves ends_run s w t g = fit_advanced h
  perform_leaves restores s w t g = λ d b q. words_leave 13 t _ (λ ws l e. taken_leaves t ws l e)

  -- THE STEP
  obey_leaves : (w : ℕ) (o : Option Opcode) → IfThere (λ x. KeepsFit W C x.access) o → Leaves W (Fit W C n) (obey n r (instruction_in w) o)
  unfolding obey Leaves
  obey_leaves w none s = tt
  obey_leaves w (some o) s =
      cond_holds (Leaves W (Fit W C n)) (not o.privileged || eqb r.ipr.ring 0)
      (λ _. operand_leaves o (instruction_in w) _ (λ t g. perform_leaves o.access s w t g)) (λ _. tt)

  step_leaves : Leaves W (Fit W C n) (step_program n r)
  unfolding step_program Leaves
  step_leaves = λ d w b e q. obey_leaves w _ (decoded_has (λ o. KeepsFit W C o.access) _ (table_keeps_fit W C word))

-- 1 TO 4
module _ {W C : ℕ → Type 0} (v : Delivery) where
  pub passing_fits : (m : Machine) → start_questions v m ≡ 0 → W m.registers.a → C (length m.registers.prs) → Fit W C (length m.memory) m.registers
  unfolding start_questions registers_in_range
  passing_fits m e a count =
      let r = m.registers in
      let one = (ask_yes _ _ _ e).1 in
      let two = ask_yes _ _ _ one in
      let three = ask_yes _ _ _ two.1 in
      let four = (ask_yes _ _ _ three.1).0 in
      let rest = and_right (pointer_in_range r.ipr) _ two.0 in
      record {
        a_has = a;
        dbr_fit =
            record { address_within = leb-true _ _ (and_left (leb r.dbr.address 16777215) _ (and_right (all pointer_in_range r.prs) _ rest)); fits = four };
        pointers_fit =
            record {
              ipr_within = in_range_within r.ipr (and_left (pointer_in_range r.ipr) _ two.0);
              prs_in_range = and_left (all pointer_in_range r.prs) _ rest;
              rings_kept = three.0;
              prs_count = count;
            };
      }

  pub fits_pass : (m : Machine) → delivery_in_range v ≡ true → memory_fits (length m.memory) ≡ true → Fit W C (length m.memory) m.registers → start_questions v m ≡ 0
  unfolding start_questions registers_in_range ask
  fits_pass m range one h =
      let ps = h.pointers_fit in
      rw (one, within_in_range _ ps.ipr_within, ps.prs_in_range, le-leb _ _ h.dbr_fit.address_within, range, ps.rings_kept, h.dbr_fit.fits)

pub memory_passes : (v : Delivery) (m : Machine) → start_questions v m ≡ 0 → memory_fits (length m.memory) ≡ true
unfolding start_questions
memory_passes v m e = (ask_yes _ _ _ e).0

pub delivery_passes : (v : Delivery) (m : Machine) → start_questions v m ≡ 0 → delivery_in_range v ≡ true
unfolding start_questions registers_in_range
delivery_passes v m e =
    let r = m.registers in
    let two = (ask_yes _ _ _ (ask_yes _ _ _ e).1).0 in
    and_right (leb r.dbr.address 16777215) _ (and_right (all pointer_in_range r.prs) _ (and_right (pointer_in_range r.ipr) _ two))

-- WHAT A COMPLETED STEP LEAVES
pub record Still (W C : ℕ → Type 0) (v : Delivery) (m k : Machine) : Type 0 where
  pub passes : start_questions v k ≡ 0
  pub a_has : W k.registers.a
  pub words_have : EachWord W k.memory
  pub size_kept : length k.memory ≡ length m.memory
  pub prs_count : C (length k.registers.prs)

module _ {W C : ℕ → Type 0} (word : (v : ℕ) → v < 2 ^ 64 → W v) (eight : C 8) (v : Delivery) (m : Machine) (e : start_questions v m ≡ 0)
    (a : W m.registers.a) (count : C (length m.registers.prs)) (ws : EachWord W m.memory) where
  pub still : (k : Machine) → Left W (Fit W C (length m.memory)) (length m.memory) k → Still W C v m k
  still k l =
      let same = l.size_kept in
      let fit = subst (λ n. Fit W C n k.registers) (sym same) l.registers_have in
      record {
        passes = fits_pass v k (delivery_passes v m e) (subst (λ n. memory_fits n ≡ true) (sym same) (memory_passes v m e)) fit;
        a_has = fit.a_has;
        words_have = l.words_have;
        size_kept = same;
        prs_count = fit.pointers_fit.prs_count;
      }

  pub step_left : OutcomeLeft W (Fit W C (length m.memory)) (length m.memory) (step m)
  unfolding step
  step_left = leaves_law W _ m ws (step_program (length m.memory) m.registers) (step_leaves word eight (passing_fits v m e a count))
