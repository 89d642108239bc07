-- Whether a fault is delivered, one law for each answer, from facts as the code's tests give them. Assumes nothing.
use Rattle.std.proofs.Common.{◌≡◌, ℕ, zero, suc, ◌+◌, ◌≤◌, ◌<◌, Bool, true, false, ◌&&◌, List, length, Option, Result, Ok, Err, refl, sym, ap, ◌∙◌, arith, ltb, leb, eqb, lt-ltb, ltb-true, leb-true, le-leb, ne_eqb}
use Rattle.std.specs.Result.{result_ok}
use Rattle.model.specs.Words as Words
use Rattle.model.specs.Words.{Pointer, descriptor_in}
use Rattle.model.specs.Registers.{Delivery}
use Rattle.model.specs.Questions.{ask, then_ask, segment_questions, word_questions, use_questions, may_write, write_questions}
use Rattle.model.proofs.BranchLaws.{and_left}
use Rattle.model.proofs.QuestionLaws.{ask_yes, then_ask_yes}
use Rattle.model.specs.Program.{descriptor_of}
use Rattle.model.specs.Reach.{segment_passes}
use Rattle.model.specs.Deliver.{can_save, delivers}
use Rattle.words.specs.declared.descriptor.Descriptor.{Descriptor}
use Rattle.questions.specs.declared.fault.Fault.{Fault}
use Rattle.questions.specs.Numbers.{fault_number}
use Rattle.questions.proofs.NumberLaws.{fault_from_one}
use Rattle.segments.specs.Translation.{as_dbr, descriptor_word, use_at, use_by, Looks, looked}
use Rattle.segments.proofs.UseLaws.{looks_passes}
use Rattle.state.specs.View.{machine_with}
use Rattle.state.specs.declared.Core.{Core}
use Rattle.frames.specs.Frame.{SavesIn, saves}

-- the tests in the code's order: the switch, 11 to 14, LENGTH and W
module _ (v : Delivery) (c : Core) (m : List ℕ) (ps : List Pointer) where
  by_parts : delivers v (machine_with c ps m)
      ≡ (eqb v.switch 1
      && (eqb (segment_questions (length m) (as_dbr c.dbr) v.save (descriptor_in (descriptor_word (as_dbr c.dbr) m v.save))) 0
      && (leb 13 (descriptor_in (descriptor_word (as_dbr c.dbr) m v.save)).length && (descriptor_in (descriptor_word (as_dbr c.dbr) m v.save)).write)))
  unfolding delivers can_save segment_passes descriptor_of descriptor_word
  by_parts = refl

and_false : (a b : Bool) → b ≡ false → (a && b) ≡ false
and_false true b e = e
and_false false b e = refl

-- 11 to 14, the thirteenth word or W has a no
not_all : (a l k n : ℕ) (b : Bool) → then_ask (then_ask a (ask (ltb 12 l) 15 0)) (ask (b && leb 0 k) 23 0) ≡ n → 1 ≤ n → (eqb a 0 && (leb 13 l && b)) ≡ false
unfolding then_ask ask
not_all (suc a) l k n b g h = rw (ne_eqb (suc a) 0 (λ z. omega arith))
not_all zero l k n false g h = and_false (leb 13 l) false refl
not_all zero l k n true g h = by_test (leb 13 l) refl
  where
    by_test : (t : Bool) → leb 13 l ≡ t → (leb 13 l && true) ≡ false
    by_test true q =
        absurd (let z = lt-ltb 12 l (leb-true 13 l q) in let x = le-leb 0 k (omega arith) in let y : 0 ≡ n = sym (rw (z, x)) ∙ g in omega arith)
    by_test false q = rw q

module _ (v : Delivery) (c : Core) (m : List ℕ) where
  pub switched_off : (v.switch ≡ 1 → ⊥) → (ps : List Pointer) → delivers v (machine_with c ps m) ≡ false
  switched_off h ps = by_parts v c m ps ∙ rw (ne_eqb _ _ h)

  -- a pointer of ring 0 to the thirteenth word of the save segment, about to write
  module _ (t : Pointer) (low : t.ring ≡ 0) (e : t.segment ≡ v.save) (twelve : t.word ≡ 12) (y : Result Descriptor Fault) (s : looked (as_dbr c.dbr) m t (write_questions t) y) where
    abbrev save : Words.Descriptor
    save = descriptor_in (descriptor_word (as_dbr c.dbr) m v.save)

    asked : use_by (as_dbr c.dbr) m t (write_questions t)
        ≡ then_ask (then_ask (segment_questions (length m) (as_dbr c.dbr) v.save save) (ask (ltb 12 save.length) 15 0))
        (ask (save.write && leb 0 save.r1) 23 0)
    unfolding use_by use_at use_questions word_questions write_questions may_write
    asked = rw (low, e, twelve)

    unfit : (f : Fault) → y ≡ Err f → (ps : List Pointer) → delivers v (machine_with c ps m) ≡ false
    unfit f i ps =
        let h = rw i at s in
        by_parts v c m ps ∙ and_false (eqb v.switch 1) _ (not_all _ save.length save.r1 (fault_number f) save.write (sym asked ∙ h) (fault_from_one f))

    module _ (d : Descriptor) (f : y ≡ Ok d) where
      passed : Looks (as_dbr c.dbr) m t (write_questions t) d.0
      passed = rw f at s

      can_be_saved : v.switch ≡ 1 → SavesIn v c m d.0
      can_be_saved on =
          let answer = then_ask_yes _ _ (sym asked ∙ looks_passes _ _ _ _ _ passed) in
          let place = then_ask_yes _ _ answer.0 in
          let long : 13 ≤ save.length = ltb-true 12 _ (ask_yes _ _ _ place.1).0 in
          record {
            delivers_here = λ ps. by_parts v c m ps ∙ rw (on, place.0, le-leb 13 _ long, and_left save.write _ (ask_yes _ _ _ answer.1).0);
            same = passed.found.same ∙ ap (descriptor_word (as_dbr c.dbr) m) e;
            fits = let r = passed.found.fits in let l = passed.found.inside in omega (arith, r, l, twelve);
          }

  -- the look's answer, without the number of its no
  pub save_answered : (t : Pointer) (low : t.ring ≡ 0) (e : t.segment ≡ v.save) (twelve : t.word ≡ 12) (y : Result Descriptor Fault) → looked (as_dbr c.dbr) m t (write_questions t) y →
      v.switch ≡ 1 → (x : Option Descriptor) → x ≡ result_ok y → saves v c m x
  save_answered t low e twelve y s on x f = rw f (by_look y s)
    where
      by_look : (y : Result Descriptor Fault) → looked (as_dbr c.dbr) m t (write_questions t) y → saves v c m (result_ok y)
      by_look (Err g) s = unfit t low e twelve (Err g) s g refl
      by_look (Ok d) s = can_be_saved t low e twelve (Ok d) s d refl on
