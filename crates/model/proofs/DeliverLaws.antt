-- A step with delivery: what it leaves passes 1 to 4 again, in 64-bit words, and memory keeps its size. Assumes nothing.
use mathlib.Core.Path.{◌≡◌, refl, sym, ◌∙◌, ap, subst}
use mathlib.Core.Bool.{true, ◌&&◌}
use mathlib.Core.List.{List, [], ◌∷◌, map}
use mathlib.Core.Logic.{◌⊎◌, inl, inr}
use Prim.Native.Nat.{ℕ, suc, ◌+◌, ◌*◌, ◌^◌, ◌≤◌, ◌<◌}
use native.Mathlib.Omega.{arith}
use lib.Dec.{leb, lit≤}
use lib.ListN.{length, set, length-set}
use borrow.Author.Tests.{lt-ltb, leb-true, le-leb}
use Rattle.model.specs.Words.{Pointer, pointer_word}
use Rattle.model.specs.Registers.{Dbr, Registers, Delivery, Machine, machine, dbr_word, with_ipr}
use Rattle.model.specs.Questions.{all, pointer_in_range, delivery_in_range, rings_at_least, dbr_fits, start_questions}
use Rattle.model.specs.Program.{Outcome, faults, completes, halts, descriptor_of}
use Rattle.model.specs.Step.{step}
use Rattle.model.specs.Deliver.{frame, with_words, delivers, saved, deliver, step_with}
use Rattle.model.specs.Sound.{is_word, StepKeepsSound, StepKeepsPassing}
use Rattle.model.proofs.BranchLaws.{cond_holds, and_left, and_right}
use Rattle.model.proofs.ListLaws.{EachWord, each_word_set, all_each, each_all, all_from}
use Rattle.model.proofs.WordLaws.{Within, in_range_within, pointer_word_within}
use Rattle.model.proofs.ProgramLaws.{SizeKept, execute_keeps_size}
use Rattle.model.proofs.LeavesLaws.{Left, OutcomeLeft, nothing_left, completed_left, halted_left}
use Rattle.model.proofs.FitLaws.{DbrFit, Fit, fit_with_ipr, rings_at_least_lower}
use Rattle.model.proofs.SoundLaws.{passing_fits, delivery_passes, Still, still, step_left}
use Rattle.model.proofs.FaultLaws.{fault_pointer_within}
use Rattle.model.proofs.NumberLaws.{fault_number_within}

-- WORDS WRITTEN
pub length_with_words : (a : ℕ) (ws m : List ℕ) → length (with_words a ws m) ≡ length m
unfolding with_words
length_with_words a [] m = refl
length_with_words a (w ∷ ws) m = length_with_words (suc a) ws (set m a w) ∙ length-set m a w

-- each of them and each word before has W
AllHave : (W : ℕ → Type 0) → List ℕ → Type 0
AllHave W [] = Unit {0}
AllHave W (w ∷ ws) = W w × AllHave W ws

each_with_words : (W : ℕ → Type 0) (a : ℕ) (ws m : List ℕ) → AllHave W ws → EachWord W m → EachWord W (with_words a ws m)
unfolding with_words AllHave
each_with_words W a [] m h e = e
each_with_words W a (w ∷ ws) m h e = each_with_words W (suc a) ws (set m a w) h.1 (each_word_set W m a w e h.0)

-- A RULE OF EVERY OUTCOME is one of the delivered outcome, if it holds of a fault delivered
pub on_delivery : (P : Outcome → Type 0) (v : Delivery) (m : Machine) (x : Outcome) → P x →
    ((n : ℕ) (t : Pointer) → x ≡ faults n t → delivers v m ≡ true → P (completes (saved v n t m))) → P (deliver v m x)
unfolding deliver
on_delivery P v m (faults n t) h f = cond_holds P (delivers v m) (λ e. f n t refl e) (λ _. h)
on_delivery P v m (completes k) h f = h
on_delivery P v m (halts k) h f = h

-- memory keeps its size
pub step_keeps_size : (v : Delivery) (m : Machine) → SizeKept (length m.memory) (step_with v m)
unfolding step_with step saved machine
step_keeps_size v m =
    on_delivery (SizeKept (length m.memory)) v m (step m) (execute_keeps_size m _) (λ n t e d. length_with_words _ (frame n t m.registers) m.memory)

-- 1 TO 4, AND 64-BIT WORDS
module _ {W : ℕ → Type 0} (word : (w : ℕ) → w < 2 ^ 64 → W w) where
  within_has : (p : Pointer) → Within p → W (pointer_word p)
  within_has p h = word _ (let x = pointer_word_within p h in omega arith)

  pointers_have : (ps : List Pointer) → all pointer_in_range ps ≡ true → AllHave W (map pointer_word ps)
  unfolding all AllHave
  pointers_have [] e = tt
  pointers_have (p ∷ ps) e = (within_has p (in_range_within p (and_left (pointer_in_range p) (all pointer_in_range ps) e)), pointers_have ps (and_right (pointer_in_range p) _ e))

  dbr_has : (n : ℕ) (d : Dbr) → DbrFit n d → W (dbr_word d)
  unfolding dbr_word dbr_fits
  dbr_has n d h =
      let x = h.address_within in
      let y = leb-true d.length 4096 (and_left (leb d.length 4096) _ h.fits) in
      word _ (omega arith)

  frame_has : {C : ℕ → Type 0} (size n : ℕ) (t : Pointer) (r : Registers) → n ≤ 52 → Within t → Fit W C size r → AllHave W (frame n t r)
  unfolding frame AllHave
  frame_has size n t r l h f = (
    word n (omega arith),
    (
      within_has t h,
      (
        f.a_has,
        (dbr_has size r.dbr f.dbr_fit, (within_has r.ipr f.pointers_fit.ipr_within, pointers_have r.prs f.pointers_fit.prs_in_range)),
      ),
    ),
  )

-- the registers when a fault has been delivered
module _ {W C : ℕ → Type 0} {size : ℕ} {r : Registers} (f : Fit W C size r) (v : Delivery) (in_range : delivery_in_range v ≡ true) where
  handler_fits : Fit W C size (with_ipr (record { ring = 0; segment = v.handler; word = 0 }) r)
  unfolding delivery_in_range
  handler_fits =
      let segments = and_right (leb v.switch 1) (leb v.save 4095 && leb v.handler 4095) in_range in
      fit_with_ipr f _
      (record { ring_within = lit≤ tt; segment_within = leb-true _ _ (and_right (leb v.save 4095) _ segments); word_within = lit≤ tt })
      (rings_at_least_lower f 0 (omega arith))

module _ {W C : ℕ → Type 0} (word : (w : ℕ) → w < 2 ^ 64 → W w) (eight : C 8) (v : Delivery) (m : Machine) (e : start_questions v m ≡ 0)
    (a : W m.registers.a) (count : C (length m.registers.prs)) (ws : EachWord W m.memory) where
  delivered_left : OutcomeLeft W (Fit W C (length m.memory)) (length m.memory) (step_with v m)
  unfolding step_with saved machine
  delivered_left =
      let f = passing_fits v m e a count in
      on_delivery (OutcomeLeft W (Fit W C (length m.memory)) (length m.memory)) v m (step m) (step_left word eight v m e a count ws)
      (λ n t q d.
      completed_left record {
        registers_have = handler_fits f v (delivery_passes v m e);
        words_have =
            each_with_words W _ (frame n t m.registers) m.memory
            (frame_has word (length m.memory) n t m.registers (fault_number_within m n t q) (fault_pointer_within v m n t e q) f) ws;
        size_kept = length_with_words _ (frame n t m.registers) m.memory;
      })

  step_leaves_still : (k : Machine) → (step_with v m ≡ completes k) ⊎ (step_with v m ≡ halts k) → Still W C v m k
  step_leaves_still k (inl q) = by_completed (subst (OutcomeLeft W _ (length m.memory)) q delivered_left)
    where
      by_completed : OutcomeLeft W (Fit W C (length m.memory)) (length m.memory) (completes k) → Still W C v m k
      by_completed (completed_left l) = still word eight v m e a count ws k l
  step_leaves_still k (inr q) = by_halted (subst (OutcomeLeft W _ (length m.memory)) q delivered_left)
    where
      by_halted : OutcomeLeft W (Fit W C (length m.memory)) (length m.memory) (halts k) → Still W C v m k
      by_halted (halted_left l) = still word eight v m e a count ws k l

-- 1 to 4 pass again, whatever the words and however many PRs
pub step_keeps_passing : StepKeepsPassing
step_keeps_passing v m k e o =
    (step_leaves_still {W = λ _. Unit {0}} {C = λ _. Unit {0}} (λ w h. tt) tt v m e tt tt (λ x. tt) k o).passes

pub step_keeps_sound : StepKeepsSound
unfolding is_word
step_keeps_sound v m k s o =
    let l = step_leaves_still {W = λ w. is_word w ≡ true} {C = λ n. n ≡ 8} (λ w h. lt-ltb w (2 ^ 64) h) refl v m s.passes s.a_is_word s.eight_prs (all_each is_word m.memory refl s.memory_is_words) k o in
    record {
      sound = record { passes = l.passes; eight_prs = l.prs_count; a_is_word = l.a_has; memory_is_words = each_all is_word k.memory l.words_have };
      size_kept = l.size_kept;
    }
