-- The opcodes that read and write their operand: one law for each answer, from facts as the code's matches and callees give them. Assumes nothing.
use Rattle.std.proofs.Common.{◌≡◌, ℕ, true, false, List, [], length, Result, Ok, Err, ap}
use Rattle.model.specs.Words.{Pointer}
use Rattle.model.specs.Registers.{Registers, machine, dbr_in, with_a, with_dbr}
use Rattle.model.specs.Opcodes.{sum}
use Rattle.model.specs.Questions.{read_questions, write_questions, dbr_fits}
use Rattle.model.specs.Program.{execute}
use Rattle.model.specs.Step as Step
use Rattle.words.specs.View.{as_pointer}
use Rattle.words.specs.declared.descriptor.Descriptor.{Descriptor}
use Rattle.words.specs.declared.pointer.Pointer as Code
use Rattle.opcodes.specs.Table.{operation_result}
use Rattle.questions.specs.declared.fault.Fault.{Fault}
use Rattle.questions.specs.Numbers.{fault_number, number_by}
use Rattle.segments.specs.Translation.{as_dbr, accessed, Writes}
use Rattle.segments.specs.declared.access.ReadWord.{ReadWord}
use Rattle.segments.specs.declared.translate.Dbr as CodeDbr
use Rattle.state.specs.View.{registers_with, worded_by, Becomes, DoesWithAnyPrs, DoesAnywhere, Completes, faulted_after}
use Rattle.state.specs.declared.Core.{Core}
use Rattle.state.specs.declared.After.{After}
use Rattle.state.proofs.DoesLaws.{does_fault, does_advance, read_goes_on, read_answered, after_read_refused, after_read_goes_on, after_write_refused, after_write_completes, write_answered}
use Rattle.operations.specs.Rest.{sets_dbr}

-- A READ OPERAND
module _ (c : Core) (d : Descriptor) (m : List ℕ) (t : Pointer) (x : After) (y : Result ReadWord Fault) where
  -- 11 to 15 or 22 has a no
  module _ (e : Fault) (u : Code.Pointer) (f : y ≡ Err e) (s : accessed (as_dbr c.dbr) m t (read_questions t) y) (g : x ≡ faulted_after c d (fault_number e) u) (h : as_pointer u ≡ t) where
    pub load_refused : (k : ℕ) → DoesWithAnyPrs c d m (λ r. Step.load (operation_result k) r t) x m
    unfolding Step.load
    load_refused k = read_answered c d m t _ y s _ x (after_read_refused c d t y _ x e u f g h)

    pub update_refused : DoesWithAnyPrs c d m (λ r. Step.update (λ w. sum w 1) r t) x m
    unfolding Step.update
    update_refused = read_answered c d m t _ y s _ x (after_read_refused c d t y _ x e u f g h)

    pub load_dbr_refused : DoesWithAnyPrs c d m (λ r. Step.load_dbr (length m) r t) x m
    unfolding Step.load_dbr
    load_dbr_refused = read_answered c d m t _ y s _ x (after_read_refused c d t y _ x e u f g h)

  -- they have a yes
  module _ (w : ReadWord) (f : y ≡ Ok w) (s : accessed (as_dbr c.dbr) m t (read_questions t) y) where
    pub load_completes : (k u : ℕ) (z : Core) → u ≡ operation_result k c.a w.word → Becomes c (with_a u) z → Completes z d x →
        DoesWithAnyPrs c d m (λ r. Step.load (operation_result k) r t) x m
    unfolding Step.load with_a execute machine
    load_completes k u z g h i =
        read_answered c d m t _ y s _ x
        (after_read_goes_on c d t y _ x w f
        (record {
          does = λ ps m.
              does_advance c z d ps m m _ x (with_a u (registers_with c ps)) (ap (λ (r : Registers). r.ipr.ring) (h.registers_same [])) i (h.registers_same ps) (rw (← g));
        }))

    pub update_stores : (u : ℕ) (m_now : List ℕ) → u ≡ sum w.word 1 → DoesWithAnyPrs c d m (λ r. Step.store u r t) x m_now →
        DoesWithAnyPrs c d m (λ r. Step.update (λ w. sum w 1) r t) x m_now
    unfolding Step.update Step.store worded_by
    update_stores u m_now g h = read_goes_on c d m t _ y s _ x m_now (record { does = λ ps. rw (f, ← g) (h.does ps) })

    pub load_dbr_takes : DoesAnywhere c d (sets_dbr (length m) w.word t) x → DoesWithAnyPrs c d m (λ r. Step.load_dbr (length m) r t) x m
    unfolding Step.load_dbr sets_dbr
    load_dbr_takes h = read_answered c d m t _ y s _ x (after_read_goes_on c d t y _ x w f h)

-- A WRITTEN OPERAND
module _ (c : Core) (d : Descriptor) (m m_now : List ℕ) (t : Pointer) (v : ℕ) (u : Code.Pointer) (x : After) (h : as_pointer u ≡ t) where
  pub store_refused : (y : Result (Unit {0}) Fault) → Writes (as_dbr c.dbr) m t (write_questions t) v (number_by fault_number y) m_now → (e : Fault) → y ≡ Err e →
      x ≡ faulted_after c d (fault_number e) u → DoesWithAnyPrs c d m (λ r. Step.store v r t) x m_now
  unfolding Step.store
  store_refused y s e f g = write_answered c d m m_now t _ v y s u x h (after_write_refused c d u y x e f g)

  pub store_completes : (y : Result (Unit {0}) Fault) → Writes (as_dbr c.dbr) m t (write_questions t) v (number_by fault_number y) m_now → y ≡ Ok tt → Completes c d x →
      DoesWithAnyPrs c d m (λ r. Step.store v r t) x m_now
  unfolding Step.store
  store_completes y s f g = write_answered c d m m_now t _ v y s u x h (after_write_completes c d u y x tt f g)

-- 34 of a word that is read
module _ (c : Core) (d : Descriptor) (t : Pointer) (x : After) (n w : ℕ) where
  pub dbr_refused : (e : Fault) (u : Code.Pointer) → fault_number e ≡ 34 → dbr_fits n (dbr_in w) ≡ false → x ≡ faulted_after c d (fault_number e) u → as_pointer u ≡ t →
      DoesAnywhere c d (sets_dbr n w t) x
  unfolding sets_dbr Step.if_dbr_fits execute
  dbr_refused e u k i j l = record { does = λ ps m. does_fault c d ps m _ x (fault_number e) u j (rw (i, k, l)) }

  pub dbr_set : (v : CodeDbr.Dbr) (z : Core) → as_dbr v ≡ dbr_in w → dbr_fits n (dbr_in w) ≡ true → Becomes c (with_dbr (as_dbr v)) z → Completes z d x →
      DoesAnywhere c d (sets_dbr n w t) x
  unfolding sets_dbr Step.if_dbr_fits with_dbr execute machine
  dbr_set v z g i j l =
      record {
        does = λ ps m.
            does_advance c z d ps m m _ x (with_dbr (as_dbr v) (registers_with c ps)) (ap (λ (r : Registers). r.ipr.ring) (j.registers_same [])) l (j.registers_same ps)
            (rw (i, ← g));
      }

pub ruleset dbrs = (dbr_refused, dbr_set)
