-- An instruction formed, by every question or by the quick way: one law for each answer. Assumes nothing.
use mathlib.Core.Path.{◌≡◌, refl, sym, ◌∙◌, ap, subst}
use mathlib.Core.Bool.{Bool, true, false, not, ◌&&◌, ◌||◌, cond}
use mathlib.Core.Option.{Option, none, some}
use Prim.Native.Nat.{ℕ, zero, suc, ◌+◌, ◌≤◌, ◌<◌}
use lib.Dec.{eqb, T}
use lib.ListN.{length, get_or}
use borrow.Author.Tests.{not-true, not-false}
use Rattle.model.specs.Words.{Pointer, descriptor_in, Instruction, instruction_in}
use Rattle.model.specs.Registers.{Registers, Machine}
use Rattle.model.specs.Opcodes.{Opcode, decoded}
use Rattle.model.specs.Questions.{ask, fetch_questions}
use Rattle.model.specs.Program.{Program, fail, execute, faults, ticks}
use Rattle.model.specs.Step.{first_address, chain, with_operand, pointer_words}
use Rattle.model.proofs.BranchLaws.{cond_holds, and_left, and_right}
use Rattle.model.proofs.Computing.{by_computation}
use Rattle.model.proofs.QuestionLaws.{ask_yes}
use Rattle.model.proofs.TableLaws.{Each, IfThere, decoded_has}
use Rattle.words.specs.View.{as_pointer, PointerWithin}
use Rattle.words.specs.declared.pointer.Pointer as Code
use Rattle.opcodes.specs.Table.{of_entry}
use Rattle.segments.specs.Translation.{descriptor_word, word_through, Reads, accessed, CodeRight}
use Rattle.std.proofs.Common.{Result, Ok, Err}
use Rattle.questions.specs.declared.fault.Fault.{Fault}
use Rattle.questions.specs.Numbers.{fault_number}
use Rattle.segments.specs.declared.access.ReadWord.{ReadWord}
use Rattle.segments.proofs.TranslateLaws.{right_fits, law_passes}
use Rattle.segments.proofs.UseLaws.{read_refused, read_passed, read_refused_counts, read_passed_counts}
use Rattle.control.proofs.MoveLaws.{executable_right}
use Rattle.addressing.specs.Address.{read_by, as_formed, Addressed}
use Rattle.addressing.specs.declared.Address.{Address}
use Rattle.addressing.specs.declared.AddressFault.{AddressFault}
use Rattle.addressing.proofs.ChainLaws.{landed, chain_formed, chain_counted}
use Rattle.dispatch.specs.Plain.{plainly, obey_plainly, plain_program, plain_step}
use Rattle.dispatch.specs.Dispatch.{dispatched, dispatched_in}
use Rattle.dispatch.proofs.PlainLaws.{plain_counts, plainly_without_ticks}
use Rattle.processor.specs.Step.{obeyed_in, OperandFormed, ReadyToPerform}

-- AN OPCODE WITHOUT AN OPERAND does the same at any pointer
abbrev Ignores : Opcode → Type 0
Ignores o = o.operand ≡ false → (n : ℕ) (i : Instruction) (r : Registers) (t u : Pointer) → plainly n o.access i r t ≡ plainly n o.access i r u

impossible : {A : Type 0} → true ≡ false → A
impossible e = absurd (subst T e tt)

each_ignores : Each Ignores
unfolding plainly by_computation
each_ignores =
    record {
      lda = λ e n i r t u. impossible e;
      sta = λ e n i r t u. impossible e;
      ada = λ e n i r t u. impossible e;
      sba = λ e n i r t u. impossible e;
      ana = λ e n i r t u. impossible e;
      ora = λ e n i r t u. impossible e;
      xra = λ e n i r t u. impossible e;
      cnt = λ e n i r t u. impossible e;
      aos = λ e n i r t u. impossible e;
      ldi = λ e n i r t u. refl;
      eap = λ e n i r t u. impossible e;
      spp = λ e n i r t u. impossible e;
      tra = λ e n i r t u. impossible e;
      tze = λ e n i r t u. impossible e;
      tmi = λ e n i r t u. impossible e;
      call = λ e n i r t u. impossible e;
      return = λ e n i r t u. impossible e;
      ldbr = λ e n i r t u. impossible e;
      hlt = λ e n i r t u. refl;
      rcu = λ e n i r t u. impossible e;
    }

-- THE OPERAND of an entry: no pointer word is asked for
chain_off : (n : ℕ) (t : Pointer) (f : Pointer → Program) → chain n false t f ≡ f t
unfolding chain
chain_off zero t f = refl
chain_off (suc n) t f = refl

straight : (n : ℕ) (r : Registers) (i : Instruction) (t : Pointer) (o : Opcode) → o.operand ≡ true → i.i ≡ false → t ≡ first_address i r →
    with_operand o i r (plainly n o.access i r) ≡ plainly n o.access i r t
unfolding with_operand
straight n r i t o e f g =
    let act = plainly n o.access i r in
    ap (λ b. cond b (chain 64 i.i (first_address i r) act) (act r.ipr)) e
    ∙ ap (λ j. chain 64 j (first_address i r) act) f
    ∙ chain_off 64 (first_address i r) act
    ∙ ap act (sym g)

nowhere : (n : ℕ) (r : Registers) (i : Instruction) (t : Pointer) (o : Opcode) → Ignores o → o.operand ≡ false →
    with_operand o i r (plainly n o.access i r) ≡ plainly n o.access i r t
unfolding with_operand
nowhere n r i t o h e = rw e (h e n i r r.ipr t)

operand_direct : (n : ℕ) (r : Registers) (i : Instruction) (t : Pointer) (o : Opcode) → Ignores o → o.operand && i.i ≡ false → t ≡ first_address i r →
    with_operand o i r (plainly n o.access i r) ≡ plainly n o.access i r t
operand_direct n r i t o h e f = by_operand o.operand refl
  where
    by_operand : (b : Bool) → o.operand ≡ b → with_operand o i r (plainly n o.access i r) ≡ plainly n o.access i r t
    by_operand true g = straight n r i t o g (rw g at e) f
    by_operand false g = nowhere n r i t o h g

direct : (n : ℕ) (r : Registers) (i : Instruction) (t : Pointer) (d : Option Opcode) → IfThere Ignores d → of_entry (λ o. o.operand) d && i.i ≡ false → t ≡ first_address i r →
    obey_plainly n r i d ≡ dispatched n r i d t
unfolding of_entry obey_plainly dispatched
direct n r i t none h e f = refl
direct n r i t (some o) h e f = ap (λ p. cond (not o.privileged || eqb r.ipr.ring 0) p (fail 33 r.ipr)) (operand_direct n r i t o h e f)

-- what is done at TPR reads no pointer word
dispatched_counts : (m : Machine) (n : ℕ) (r : Registers) (i : Instruction) (d : Option Opcode) (t : Pointer) → ticks m (dispatched n r i d t) ≡ 0
unfolding dispatched ticks
dispatched_counts m n r i none t = refl
dispatched_counts m n r i (some o) t =
    cond_holds (λ p. ticks m p ≡ 0) (not o.privileged || eqb r.ipr.ring 0) (λ _. plainly_without_ticks m n o.access i r t) (λ _. refl)

-- 33 comes first
not_or : (p e : Bool) → p && not e ≡ true → not p || e ≡ false
not_or true true h = sym h
not_or true false h = refl
not_or false e h = impossible (sym h)

or_yes : (p e : Bool) → p && not e ≡ false → not p || e ≡ true
or_yes true true h = refl
or_yes true false h = sym h
or_yes false e h = refl

privileged_refused : (m : Machine) (n : ℕ) (r : Registers) (i : Instruction) (d : Option Opcode) → of_entry (λ o. o.privileged) d && not (eqb r.ipr.ring 0) ≡ true →
    execute m (obey_plainly n r i d) ≡ faults 33 r.ipr
unfolding of_entry obey_plainly execute
privileged_refused m n r i none e = impossible (sym e)
privileged_refused m n r i (some o) e = rw (not_or o.privileged (eqb r.ipr.ring 0) e)

privileged_counts : (m : Machine) (n : ℕ) (r : Registers) (i : Instruction) (d : Option Opcode) → of_entry (λ o. o.privileged) d && not (eqb r.ipr.ring 0) ≡ true →
    ticks m (obey_plainly n r i d) ≡ 0
unfolding of_entry obey_plainly ticks
privileged_counts m n r i none e = impossible (sym e)
privileged_counts m n r i (some o) e = rw (not_or o.privileged (eqb r.ipr.ring 0) e) refl

-- through pointer words
module _ (m : Machine) (n : ℕ) (i : Instruction) (t : Pointer) (f : t ≡ first_address i m.registers) (x : Result Address AddressFault) (s : Addressed m.registers.dbr m.memory t x) where
  chained : (o : Opcode) → o.operand && i.i ≡ true → o.privileged && not (eqb m.registers.ipr.ring 0) ≡ false →
      obey_plainly n m.registers i (some o) ≡ chain 64 true t (plainly n o.access i m.registers)
  unfolding obey_plainly with_operand
  chained o e g =
      let r = m.registers in
      let act = plainly n o.access i r in
      ap (λ b. cond b (with_operand o i r act) (fail 33 r.ipr)) (or_yes o.privileged (eqb r.ipr.ring 0) g)
      ∙ ap (λ b. cond b (chain 64 i.i (first_address i r) act) (act r.ipr)) (and_left o.operand i.i e)
      ∙ ap (λ j. chain 64 j (first_address i r) act) (and_right o.operand i.i e)
      ∙ ap (λ z. chain 64 true z act) (sym f)

  through_words : (o : Opcode) → o.operand && i.i ≡ true → o.privileged && not (eqb m.registers.ipr.ring 0) ≡ false →
      execute m (obey_plainly n m.registers i (some o)) ≡ landed m (plainly n o.access i m.registers) (as_formed x)
  through_words o e g = ap (execute m) (chained o e g) ∙ chain_formed m t x s (plainly n o.access i m.registers)

  words_counted : (o : Opcode) → o.operand && i.i ≡ true → o.privileged && not (eqb m.registers.ipr.ring 0) ≡ false →
      ticks m (obey_plainly n m.registers i (some o)) ≡ read_by (as_formed x)
  words_counted o e g =
      ap (ticks m) (chained o e g)
      ∙ chain_counted m t x s (plainly n o.access i m.registers) (λ u. plainly_without_ticks m n o.access i m.registers u)

  performed : (o : Opcode) (u : Pointer) → o.privileged && not (eqb m.registers.ipr.ring 0) ≡ false →
      plainly n o.access i m.registers u ≡ dispatched n m.registers i (some o) u
  unfolding dispatched
  performed o u g = rw (or_yes o.privileged (eqb m.registers.ipr.ring 0) g)

-- THE OPERAND OF AN INSTRUCTION WORD
module _ (m : Machine) (w v : ℕ) (q : v ≡ (instruction_in w).opcode) (b j : Bool) (e₀ : b ≡ of_entry (λ o. o.operand) (decoded v)) (f : j ≡ (instruction_in w).i) where
  e : b ≡ of_entry (λ o. o.operand) (decoded (instruction_in w).opcode)
  e = e₀ ∙ ap (λ z. of_entry (λ o. o.operand) (decoded z)) q

  pub operand_direct_law : (t : Pointer) → not (b && j) ≡ true → t ≡ first_address (instruction_in w) m.registers →
      (execute m (obeyed_in m w) ≡ execute m (dispatched_in m w t)) × (ticks m (obeyed_in m w) ≡ 0)
  operand_direct_law t y g = (ap (execute m) same, ap (ticks m) same ∙ dispatched_counts m _ m.registers (instruction_in w) (decoded (instruction_in w).opcode) t)
    where
      same : obeyed_in m w ≡ dispatched_in m w t
      same =
          direct _ m.registers (instruction_in w) t (decoded (instruction_in w).opcode) (decoded_has Ignores (instruction_in w).opcode each_ignores)
          (rw (← e, ← f) (not-true (b && j) y)) g

  module _ (y : not (b && j) ≡ false) (p : Bool) (h₀ : p ≡ of_entry (λ o. o.privileged) (decoded v)) where
    h : p ≡ of_entry (λ o. o.privileged) (decoded (instruction_in w).opcode)
    h = h₀ ∙ ap (λ z. of_entry (λ o. o.privileged) (decoded z)) q

    pub operand_33_law : p && not (eqb m.registers.ipr.ring 0) ≡ true →
        (execute m (obeyed_in m w) ≡ faults 33 m.registers.ipr) × (ticks m (obeyed_in m w) ≡ 0)
    operand_33_law g =
        let d = decoded (instruction_in w).opcode in
        (privileged_refused m _ m.registers (instruction_in w) d (rw (← h) g), privileged_counts m _ m.registers (instruction_in w) d (rw (← h) g))

    pub operand_chain_law : (t : Pointer) (x : Result Address AddressFault) → p && not (eqb m.registers.ipr.ring 0) ≡ false → t ≡ first_address (instruction_in w) m.registers →
        Addressed m.registers.dbr m.memory t x → OperandFormed m w x
    unfolding landed of_entry read_by
    operand_chain_law t x g k s = through (decoded (instruction_in w).opcode) refl (rw (← e, ← f) (not-false (b && j) y)) (rw (← h) g) x s k
      where
        lands : (o : Opcode) (x : Result Address AddressFault) → o.privileged && not (eqb m.registers.ipr.ring 0) ≡ false → decoded (instruction_in w).opcode ≡ some o →
            Addressed m.registers.dbr m.memory t x → t ≡ first_address (instruction_in w) m.registers → o.operand && (instruction_in w).i ≡ true → OperandFormed m w x
        lands o (Err e) g d s k a = (
          ap (λ z. execute m (obey_plainly (length m.memory) m.registers (instruction_in w) z)) d
              ∙ through_words m (length m.memory) (instruction_in w) t k (Err e) s o a g,
          ap (λ z. ticks m (obey_plainly (length m.memory) m.registers (instruction_in w) z)) d
              ∙ words_counted m (length m.memory) (instruction_in w) t k (Err e) s o a g,
        )
        lands o (Ok z) g d s k a = (
          ap (λ z. execute m (obey_plainly (length m.memory) m.registers (instruction_in w) z)) d
              ∙ through_words m (length m.memory) (instruction_in w) t k (Ok z) s o a g
              ∙ ap (execute m) (performed m (length m.memory) (instruction_in w) t k (Ok z) s o (as_pointer z.pointer) g)
              ∙ ap (λ y. execute m (dispatched (length m.memory) m.registers (instruction_in w) y (as_pointer z.pointer))) (sym d),
          ap (λ z. ticks m (obey_plainly (length m.memory) m.registers (instruction_in w) z)) d
              ∙ words_counted m (length m.memory) (instruction_in w) t k (Ok z) s o a g,
          s.within,
        )

        through : (d : Option Opcode) → decoded (instruction_in w).opcode ≡ d → of_entry (λ o. o.operand) d && (instruction_in w).i ≡ true →
            of_entry (λ o. o.privileged) d && not (eqb m.registers.ipr.ring 0) ≡ false → (x : Result Address AddressFault) → Addressed m.registers.dbr m.memory t x →
            t ≡ first_address (instruction_in w) m.registers → OperandFormed m w x
        through none q a c x s k = impossible (sym a)
        through (some o) q a c x s k = lands o x c q s k a

pub ruleset operands = (operand_direct_law, operand_33_law, operand_chain_law)

-- THE FETCH, by every question
module _ (m : Machine) (y : Result ReadWord Fault) (s : accessed m.registers.dbr m.memory m.registers.ipr (fetch_questions m.registers.ipr) y) where
  pub fetch_faults : (e : Fault) → y ≡ Err e → (plain_step m ≡ faults (fault_number e) m.registers.ipr) × (pointer_words m ≡ 0)
  unfolding plain_step plain_program
  fetch_faults e is = (read_refused m m.registers.ipr _ y s _ e is, plain_counts m ∙ read_refused_counts m m.registers.ipr _ y s _ e is)

  module _ (w : ReadWord) (e : y ≡ Ok w) where
    pub fetch_obeys : plain_step m ≡ execute m (obeyed_in m w.word)
    unfolding plain_step plain_program
    fetch_obeys = read_passed m m.registers.ipr _ y s _ w e

    pub fetch_counts : pointer_words m ≡ ticks m (obeyed_in m w.word)
    unfolding plain_program
    fetch_counts = plain_counts m ∙ read_passed_counts m m.registers.ipr _ y s _ w e

    code_fetched : CodeRight w.descriptor.0 m.registers.ipr.ring (length m.memory)
    unfolding fetch_questions
    code_fetched = let h = rw e at s in executable_right _ w.descriptor.0 h.looks.found.right m.registers.ipr _ refl (ask_yes _ _ _ h.looks.asked).0

    module _ (x : Result Address AddressFault) (g : OperandFormed m w.word x) where
      pub form_bad : (a : AddressFault) → x ≡ Err a → (plain_step m ≡ faults (fault_number a.fault) (as_pointer a.pointer)) × (pointer_words m ≡ a.read)
      form_bad a f = let h = rw f at g in (fetch_obeys ∙ h.0, fetch_counts ∙ h.1)

      pub form_ready : (a : Address) → x ≡ Ok a → ReadyToPerform m w.word a.pointer a.read × CodeRight w.descriptor.0 m.registers.ipr.ring (length m.memory)
      form_ready a f = let h = rw f at g in (record { step_same = fetch_obeys ∙ h.0; counted = fetch_counts ∙ h.1; within = h.2 }, code_fetched)

-- THE FETCH, by the word that has passed
module _ (m : Machine) (code w : ℕ) (right : CodeRight code m.registers.ipr.ring (length m.memory)) (h : m.registers.ipr.segment < m.registers.dbr.length)
    (e : get_or m.memory (m.registers.dbr.address + m.registers.ipr.segment) 0 ≡ code) (l : ℕ) (f : l ≡ (descriptor_in code).length) (i : m.registers.ipr.word < l)
    (g : w ≡ word_through m.memory code m.registers.ipr.word) where
  quick_reads : Reads m.registers.dbr m.memory m.registers.ipr (fetch_questions m.registers.ipr) code w
  unfolding fetch_questions ask descriptor_word
  quick_reads =
      record {
        looks =
            record {
              found = law_passes m.registers.dbr m.memory m.registers.ipr code h (sym right.passes) (sym e) l f i;
              asked = rw (right.executable m.registers.ipr refl);
            };
        word_same = g;
      }

  pub quick_ready : (j : Bool) (t : Code.Pointer) → j ≡ (instruction_in w).i → j ≡ false → as_pointer t ≡ first_address (instruction_in w) m.registers → PointerWithin t →
      ReadyToPerform m w t 0
  quick_ready j t n k q z =
      record {
        step_same = fetch_obeys m (Ok (record { descriptor = record { 0 = code }; word = w })) quick_reads (record { descriptor = record { 0 = code }; word = w }) refl ∙ direct_here.0;
        counted = fetch_counts m (Ok (record { descriptor = record { 0 = code }; word = w })) quick_reads (record { descriptor = record { 0 = code }; word = w }) refl ∙ direct_here.1;
        within = z;
      }
    where
      off : (b j : Bool) → j ≡ false → not (b && j) ≡ true
      off true true k = impossible k
      off true false k = refl
      off false j k = refl

      direct_here : (execute m (obeyed_in m w) ≡ execute m (dispatched_in m w (as_pointer t))) × (ticks m (obeyed_in m w) ≡ 0)
      direct_here =
          operand_direct_law m w (instruction_in w).opcode refl (of_entry (λ o. o.operand) (decoded (instruction_in w).opcode)) j refl n (as_pointer t) (off (of_entry (λ o. o.operand) (decoded (instruction_in w).opcode)) j k) q

-- the word's own part of memory
pub code_fits : (code ring n : ℕ) → CodeRight code ring n → (descriptor_in code).address + (descriptor_in code).length ≤ n
code_fits code ring n right = right_fits n code right.passes

pub code_inside : (code l i : ℕ) → l ≡ (descriptor_in code).length → i < l → i < (descriptor_in code).length
code_inside code l i e h = rw (← e) h
