-- How an answer does what a program says: a fault, a completed step, and a step through a read, a write or a look. Assumes nothing.
use Rattle.std.proofs.Common.{◌≡◌, ℕ, List, [], length, Result, Ok, Err, sym, refl, ap, ◌∙◌, subst, arith}
use Rattle.model.specs.Words as Words
use Rattle.model.specs.Words.{Pointer, descriptor_in}
use Rattle.model.specs.Registers.{Registers, machine, with_ipr, moved_by, advanced}
use Rattle.model.specs.Questions.{Question}
use Rattle.model.specs.Program.{Program, fail, finish, look, read, write, faults, completes, execute}
use Rattle.words.specs.View.{as_pointer}
use Rattle.words.specs.declared.descriptor.Descriptor.{Descriptor}
use Rattle.words.specs.declared.pointer.Pointer as Code
use Rattle.state.specs.declared.Core.{Core}
use Rattle.state.specs.declared.After.{After}
use Rattle.state.specs.declared.End.TheVariants.{Completed}
use Rattle.questions.specs.declared.fault.Fault.{Fault}
use Rattle.questions.specs.Numbers.{fault_number, number_by}
use Rattle.segments.specs.declared.access.ReadWord.{ReadWord}
use Rattle.segments.specs.Translation.{as_dbr, looked, accessed, Writes, CodeRight}
use Rattle.state.specs.View.{registers_with, machine_with, ended, Does, DoesWithAnyPrs, Completes, Finishes, faulted_after, worded_by, passed_by, DoesAnywhere, DoesAfterRead, DoesInAnyMemory, DoesAfterLook, DoesAfterWrite}
use Rattle.questions.proofs.NumberLaws.{fault_from_one}
use Rattle.segments.proofs.UseLaws.{looked_right, look_refused, look_passed, read_refused, read_passed, write_faults, write_completes}

module _ (c : Core) (d : Descriptor) (ps : List Pointer) (m : List ℕ) (p : Program) (x : After) where
  -- A FAULT
  pub does_fault : (n : ℕ) (t : Code.Pointer) → x ≡ faulted_after c d n t → execute (machine_with c ps m) p ≡ faults n (as_pointer t) → Does c d ps m p x ps m
  unfolding ended
  does_fault n t e f = rw e (record { ends = (f, refl); code_kept = λ r. r })

  module _ (ps_now : List Pointer) (m_now : List ℕ) where
    pub ends_complete : x.end ≡ Completed → (r : Registers) → registers_with x.core ps_now ≡ r →
        execute (machine_with c ps m) p ≡ completes (record { registers = r; memory = m_now }) →
        ended (machine_with c ps m) (execute (machine_with c ps m) p) x.end (machine_with x.core ps_now m_now)
    unfolding ended
    ends_complete e r f g =
        subst (λ z. ended (machine_with c ps m) (execute (machine_with c ps m) p) z (machine_with x.core ps_now m_now)) (sym e)
        (g ∙ ap (λ z. completes (record { registers = z; memory = m_now })) (sym f))

    -- A COMPLETED STEP: the program completes with these registers and this memory, and the code's descriptor is right
    pub does_complete : x.end ≡ Completed → (r : Registers) → registers_with x.core ps_now ≡ r →
        execute (machine_with c ps m) p ≡ completes (record { registers = r; memory = m_now }) →
        (CodeRight d.0 c.ipr.ring (length m) → CodeRight x.code.0 x.core.ipr.ring (length m)) → Does c d ps m p x ps_now m_now
    does_complete e r f g k = record { ends = ends_complete e r f g; code_kept = k }

    -- in the same segment and ring
    pub does_stay : x.end ≡ Completed → x.code ≡ d → x.core.ipr.ring ≡ c.ipr.ring → (r : Registers) → registers_with x.core ps_now ≡ r →
        execute (machine_with c ps m) p ≡ completes (record { registers = r; memory = m_now }) → Does c d ps m p x ps_now m_now
    does_stay e f g r h i = does_complete e r h i (λ k. rw (f, g) k)

    -- by another program that is executed alike
    pub does_as : (q : Program) → execute (machine_with c ps m) p ≡ execute (machine_with c ps m) q → Does c d ps m q x ps_now m_now → Does c d ps m p x ps_now m_now
    does_as q e h =
        record { ends = subst (λ z. ended (machine_with c ps m) z x.end (machine_with x.core ps_now m_now)) (sym e) h.ends; code_kept = h.code_kept }

-- A COMPLETED STEP moves IPR on from a core that is c but for A or DBR
pub does_advance : (c z : Core) (d : Descriptor) (ps : List Pointer) (m m_now : List ℕ) (p : Program) (x : After) (r : Registers) →
    z.ipr.ring ≡ c.ipr.ring → Completes z d x → registers_with z ps ≡ r →
    execute (machine_with c ps m) p ≡ completes (record { registers = advanced r; memory = m_now }) → Does c d ps m p x ps m_now
unfolding advanced with_ipr moved_by
does_advance c z d ps m m_now p x r i h f g =
    does_stay c d ps m p x ps m_now h.completed h.code_same (ap (λ (y : Registers). y.ipr.ring) (h.core_same.registers_same []) ∙ i) (advanced r)
    (h.core_same.registers_same ps ∙ ap advanced f) g

pub does_finish : (c : Core) (d : Descriptor) (ps : List Pointer) (m : List ℕ) (f : Registers → Registers) (x : After) (ps_now : List Pointer) → Finishes c d ps f x ps_now →
    Does c d ps m (finish (advanced (f (registers_with c ps)))) x ps_now m
unfolding execute machine
does_finish c d ps m f x ps_now h =
    does_stay c d ps m _ x ps_now m h.completed h.code_same h.ring_same (advanced (f (registers_with c ps))) h.registers_same refl

-- A READ, answered: the program is what is left of it
pub read_goes_on : (c : Core) (d : Descriptor) (m : List ℕ) (t : Pointer) (q : Question) (y : Result ReadWord Fault) → accessed (as_dbr c.dbr) m t q y → (g : Registers → Words.Descriptor → (word : ℕ) → Program) (x : After) (m_now : List ℕ) →
    DoesWithAnyPrs c d m (λ r. worded_by y t (g r)) x m_now → DoesWithAnyPrs c d m (λ r. read q t (g r)) x m_now
unfolding worded_by execute
read_goes_on c d m t q y s g x m_now h = record { does = λ ps. does_as c d ps m _ x ps m_now _ (by_answer ps y s) (h.does ps) }
  where
    by_answer : (ps : List Pointer) (y : Result ReadWord Fault) → accessed (as_dbr c.dbr) m t q y → execute (machine_with c ps m) (read q t (g (registers_with c ps))) ≡ execute (machine_with c ps m) (worded_by y t (g (registers_with c ps)))
    by_answer ps (Err e) s = read_refused (machine_with c ps m) t q (Err e) s (g (registers_with c ps)) e refl
    by_answer ps (Ok w) s = read_passed (machine_with c ps m) t q (Ok w) s (g (registers_with c ps)) w refl

-- where that leaves memory alone
pub read_answered : (c : Core) (d : Descriptor) (m : List ℕ) (t : Pointer) (q : Question) (y : Result ReadWord Fault) → accessed (as_dbr c.dbr) m t q y → (g : Registers → Words.Descriptor → (word : ℕ) → Program) (x : After) →
    DoesAfterRead c d t y g x → DoesWithAnyPrs c d m (λ r. read q t (g r)) x m
read_answered c d m t q y s g x h = read_goes_on c d m t q y s g x m (record { does = λ ps. h.does ps m })

-- and each answer by itself
module _ (c : Core) (d : Descriptor) (t : Pointer) (y : Result ReadWord Fault) (g : Registers → Words.Descriptor → (word : ℕ) → Program) (x : After) where
  pub after_read_refused : (e : Fault) (u : Code.Pointer) → y ≡ Err e → x ≡ faulted_after c d (fault_number e) u → as_pointer u ≡ t → DoesAfterRead c d t y g x
  unfolding worded_by execute
  after_read_refused e u is f h = record { does = λ ps m. rw is (does_fault c d ps m _ x (fault_number e) u f (ap (faults (fault_number e)) (sym h))) }

  pub after_read_goes_on : (w : ReadWord) → y ≡ Ok w → DoesAnywhere c d (λ r. g r (descriptor_in w.descriptor.0) w.word) x → DoesAfterRead c d t y g x
  unfolding worded_by
  after_read_goes_on w is h = record { does = λ ps m. rw is (h.does ps m) }

-- A LOOK
pub look_answered : (c : Core) (d : Descriptor) (ps : List Pointer) (m : List ℕ) (t : Pointer) (q : Question) (y : Result Descriptor Fault) → looked (as_dbr c.dbr) m t q y → (g : Words.Descriptor → Program) (x : After) (ps_now : List Pointer) →
    DoesAfterLook c d ps q t y g x ps_now → Does c d ps m (look q t g) x ps_now m
unfolding passed_by execute
look_answered c d ps m t q y s g x ps_now h =
    does_as c d ps m _ x ps_now m (passed_by y t g) (by_answer y s) (record { ends = h.ends m; code_kept = h.code_kept (length m) (looked_right (as_dbr c.dbr) m t q y s) })
  where
    by_answer : (y : Result Descriptor Fault) → looked (as_dbr c.dbr) m t q y → execute (machine_with c ps m) (look q t g) ≡ execute (machine_with c ps m) (passed_by y t g)
    by_answer (Err e) s = look_refused (machine_with c ps m) t q (Err e) s g e refl
    by_answer (Ok e) s = look_passed (machine_with c ps m) t q (Ok e) s g e refl

-- A REST THAT USES NO MEMORY: a fault, or a completed step with a right descriptor
module _ (c : Core) (d : Descriptor) (ps : List Pointer) (p : Program) (right : ℕ → Type 0) (x : After) where
  pub rest_faults : (n : ℕ) (u : Code.Pointer) → x ≡ faulted_after c d n u → p ≡ fail n (as_pointer u) → DoesInAnyMemory c d ps p right x ps
  unfolding execute
  rest_faults n u e f = record { ends = λ m. (does_fault c d ps m p x n u e (rw f)).ends; code_kept = λ _ _ k. rw e k }

  pub rest_completes : (r : Registers) (ps_now : List Pointer) → x.end ≡ Completed → registers_with x.core ps_now ≡ r → p ≡ finish r →
      ((size : ℕ) → right size → CodeRight x.code.0 x.core.ipr.ring size) → DoesInAnyMemory c d ps p right x ps_now
  unfolding execute machine
  rest_completes r ps_now e f g k = record { ends = λ m. ends_complete c d ps m p x ps_now m e r f (rw g); code_kept = λ size h _. k size h }

pub after_look_refused : (c : Core) (d : Descriptor) (ps : List Pointer) (q : Question) (t : Pointer) (y : Result Descriptor Fault) (g : Words.Descriptor → Program) (x : After) (e : Fault) (u : Code.Pointer) →
    y ≡ Err e → x ≡ faulted_after c d (fault_number e) u → as_pointer u ≡ t → DoesAfterLook c d ps q t y g x ps
unfolding passed_by
after_look_refused c d ps q t y g x e u is f h = rest_faults c d ps _ _ x (fault_number e) u f (rw (is, h))

-- A WRITE, by its answer
module _ (c : Core) (d : Descriptor) (u : Code.Pointer) (y : Result (Unit {0}) Fault) (x : After) where
  pub after_write_refused : (e : Fault) → y ≡ Err e → x ≡ faulted_after c d (fault_number e) u → DoesAfterWrite c d u (number_by fault_number y) x
  after_write_refused e is f = rw is (record { refused = λ _. f; written = λ k. let h = fault_from_one e in absurd (omega arith) })

  pub after_write_completes : (k : Unit {0}) → y ≡ Ok k → Completes c d x → DoesAfterWrite c d u (number_by fault_number y) x
  after_write_completes k is h = rw is (record { refused = λ z. absurd (z refl); written = λ _. h })

pub write_answered : (c : Core) (d : Descriptor) (m m_now : List ℕ) (t : Pointer) (q : Question) (v : ℕ) (y : Result (Unit {0}) Fault) → Writes (as_dbr c.dbr) m t q v (number_by fault_number y) m_now → (u : Code.Pointer) (x : After) →
    as_pointer u ≡ t → DoesAfterWrite c d u (number_by fault_number y) x → DoesWithAnyPrs c d m (λ r. write q t v (advanced r)) x m_now
write_answered c d m m_now t q v y s u x i h = record { does = λ ps. by_answer ps y s h }
  where
    by_answer : (ps : List Pointer) (y : Result (Unit {0}) Fault) → Writes (as_dbr c.dbr) m t q v (number_by fault_number y) m_now → DoesAfterWrite c d u (number_by fault_number y) x → Does c d ps m (write q t v (advanced (registers_with c ps))) x ps m_now
    by_answer ps (Ok k) s h =
        does_advance c c d ps m m_now _ x (registers_with c ps) refl (h.written refl) refl
        (write_completes (machine_with c ps m) t q v m_now (advanced (registers_with c ps)) s)
    by_answer ps (Err e) s h =
        let z : fault_number e ≡ 0 → ⊥ = λ k. let j = fault_from_one e in absurd (omega arith) in
        subst (Does c d ps m (write q t v (advanced (registers_with c ps))) x ps) (sym (s.kept z))
        (does_fault c d ps m _ x (fault_number e) u (h.refused z) (write_faults (machine_with c ps m) t q v m_now (advanced (registers_with c ps)) e s ∙ ap (faults (fault_number e)) (sym i)))
