-- The chain of pointer words: by DBR or by the descriptors' own words it is one, and the model's chain goes where it does. Assumes nothing.
use mathlib.Core.Path.{◌≡◌, refl, sym, ap, ap₂, ◌∙◌}
use mathlib.Core.Bool.{Bool, true, false}
use mathlib.Core.List.{List}
use Prim.Native.Nat.{ℕ, zero, suc, ◌+◌, ◌-◌, ◌≤◌, ◌<◌}
use native.Mathlib.Nat.{zero-add}
use native.Mathlib.Omega.{arith}
use lib.Dec.{ltb}
use lib.ListN.{length, get_or, take, drop, length-take, length-drop}
use lib.Seq.{get_or-drop, get_or-take}
use borrow.Author.Tests.{ltb-true}
use Rattle.model.specs.Words.{Pointer, indirect_in}
use Rattle.model.specs.Registers.{Dbr, Machine}
use Rattle.model.specs.Program.{Program, Outcome, faults, execute, descriptor_of, absolute_address, word_at, use_answer, or_fault, unless_fault, ticks}
use Rattle.model.specs.Questions.{ask, then_ask, segment_questions, word_questions, use_questions, read_questions}
use Rattle.model.specs.Step.{chain}
use Rattle.segments.specs.Translation.{descriptor_word, word_through}
use Rattle.addressing.specs.Address.{Descriptors, by_dbr, lent, segment_answer, word_answer, pointer_answer, pointer_leads, Formed, bad, good, or_bad, read_by, through, as_formed, Walked, Addressed}
use Rattle.std.proofs.Common.{Result}
use Rattle.addressing.specs.declared.Address.{Address}
use Rattle.addressing.specs.declared.AddressFault.{AddressFault}

or_bad_no : (k : ℕ) (t : Pointer) (c : ℕ) (x : Formed) → 1 ≤ k → or_bad k t c x ≡ bad k t c
unfolding or_bad
or_bad_no zero t c x h = absurd (let z : 1 ≤ 0 = h in omega arith)
or_bad_no (suc k) t c x h = refl

module _ (ds : Descriptors) (m : List ℕ) (t : Pointer) where
  pub through_off : (left : ℕ) → through left false ds m t ≡ good t (64 - left)
  unfolding through
  through_off zero = refl
  through_off (suc n) = refl

  pub through_none_left : through zero true ds m t ≡ bad 31 t 64
  unfolding through
  through_none_left = refl

  pub through_refused : (n k : ℕ) → pointer_answer ds.count (ds.word t.segment) m t ≡ k → 1 ≤ k → through (suc n) true ds m t ≡ bad k t (64 - suc n)
  unfolding through
  through_refused n k e h = rw e (or_bad_no k t _ _ h)

  pub through_next : (n : ℕ) → pointer_answer ds.count (ds.word t.segment) m t ≡ 0 →
      let d = ds.word t.segment in through (suc n) true ds m t ≡ through n (indirect_in (word_through m d t.word)) ds m (pointer_leads d m t)
  unfolding through or_bad
  through_next n e = rw e

-- THE DESCRIPTORS' OWN WORDS are those by DBR: past their end 11 is no, whatever stands there
answer_11 : (c d : ℕ) (m : List ℕ) (t : Pointer) → ltb t.segment c ≡ false → pointer_answer c d m t ≡ 11
unfolding pointer_answer segment_answer segment_questions ask then_ask
answer_11 c d m t e = simp e

module _ (ds es : Descriptors) (m : List ℕ) (e : ds.count ≡ es.count) (f : (s : ℕ) → s < ds.count → ds.word s ≡ es.word s) where
  same_once : (n : ℕ) → ((i : Bool) (t : Pointer) → through n i ds m t ≡ through n i es m t) →
      (t : Pointer) (b : Bool) → ltb t.segment ds.count ≡ b → through (suc n) true ds m t ≡ through (suc n) true es m t
  unfolding through
  same_once n r t true h =
      let g = f t.segment (ltb-true _ _ h) in
      ap₂ (λ k y. or_bad k t (64 - suc n) y)
      (ap₂ (λ c d. pointer_answer c d m t) e g)
      (r _ _ ∙ ap (λ d. through n (indirect_in (word_through m d t.word)) es m (pointer_leads d m t)) g)
  same_once n r t false h =
      through_refused ds m t n 11 (answer_11 _ _ m t h) (omega arith)
      ∙ sym (through_refused es m t n 11 (answer_11 _ _ m t (rw (← e) h)) (omega arith))

  through_same : (left : ℕ) (i : Bool) (t : Pointer) → through left i ds m t ≡ through left i es m t
  unfolding through
  through_same zero i t = refl
  through_same (suc n) false t = refl
  through_same (suc n) true t = same_once n (through_same n) t _ refl

pub effective_law : (b : Dbr) (m ws : List ℕ) (t : Pointer) (x : Result Address AddressFault) → b.address + b.length ≤ length m → ws ≡ take b.length (drop b.address m) →
    Walked (lent ws) m t x → Addressed b m t x
unfolding descriptor_word
effective_law b m ws t x h e s =
    record {
      same = s.same ∙ through_same (lent ws) (by_dbr b m) m long same 64 true t;
      within = s.within;
    }
  where
    long : length ws ≡ b.length
    long = rw e (simp (length-take, length-drop) (omega arith))

    same : (k : ℕ) → k < length ws → get_or ws k 0 ≡ get_or m (b.address + k) 0
    same k g = let g : k < b.length = rw (← long) g in rw e (rw (get_or-take, get_or-drop))

-- where a chain goes, what is done there; else its fault
unfoldable pub landed : Machine → (Pointer → Program) → Formed → Outcome
landed m f (bad n t c) = faults n t
landed m f (good t c) = execute m (f t)

landed_after : (m : Machine) (f : Pointer → Program) (k : ℕ) (t : Pointer) (c : ℕ) (x : Outcome) (y : Formed) →
    x ≡ landed m f y → or_fault k t x ≡ landed m f (or_bad k t c y)
unfolding landed or_fault or_bad
landed_after m f zero t c x y e = e
landed_after m f (suc k) t c x y e = refl

-- 11 to 15 and then 22, or 11 to 14 and then both
asked_in_turn : (k : ℕ) (b : Bool) (n x : ℕ) → then_ask k (ask b (suc n) x) ≡ then_ask (then_ask k (ask b (suc n) 0)) x
unfolding then_ask ask
asked_in_turn zero true n x = refl
asked_in_turn zero false n x = refl
asked_in_turn (suc k) b n x = refl

answer_by_dbr : (m : Machine) (t : Pointer) →
    let b = m.registers.dbr in pointer_answer b.length (descriptor_word b m.memory t.segment) m.memory t ≡ use_answer m t (read_questions t)
unfolding pointer_answer segment_answer word_answer use_answer descriptor_of descriptor_word use_questions segment_questions word_questions
answer_by_dbr m t = asked_in_turn _ _ 14 _

chain_lands : (m : Machine) (f : Pointer → Program) (left : ℕ) (i : Bool) (t : Pointer) →
    execute m (chain left i t f) ≡ landed m f (through left i (by_dbr m.registers.dbr m.memory) m.memory t)
unfolding chain execute landed through descriptor_of absolute_address word_at pointer_leads descriptor_word word_through
chain_lands m f zero true t = refl
chain_lands m f zero false t = refl
chain_lands m f (suc left) true t = rw (← answer_by_dbr m t) (landed_after m f _ t _ _ _ (chain_lands m f left _ _))
chain_lands m f (suc left) false t = refl

-- AN OPERAND at the end of a chain
pub chain_formed : (m : Machine) (t : Pointer) (x : Result Address AddressFault) → Addressed m.registers.dbr m.memory t x → (f : Pointer → Program) →
    execute m (chain 64 true t f) ≡ landed m f (as_formed x)
chain_formed m t x s f = chain_lands m f 64 true t ∙ ap (landed m f) (sym s.same)

-- what a chain reads, where what is done at its end reads no pointer word
ticked_after : (k c d : ℕ) (t : Pointer) (n : ℕ) (y : Formed) → suc n + d ≡ read_by y → d ≡ c → unless_fault k (suc n) + d ≡ read_by (or_bad k t c y)
unfolding unless_fault or_bad read_by
ticked_after zero c d t n y e f = e
ticked_after (suc k) c d t n y e f = zero-add d ∙ f

one_less : (left : ℕ) → suc left ≤ 64 → (n : ℕ) → suc n + (64 - suc left) ≡ n + (64 - left)
one_less left h n = omega arith

chain_ticks : (m : Machine) (f : Pointer → Program) → ((t : Pointer) → ticks m (f t) ≡ 0) → (left : ℕ) → left ≤ 64 → (i : Bool) (t : Pointer) →
    ticks m (chain left i t f) + (64 - left) ≡ read_by (through left i (by_dbr m.registers.dbr m.memory) m.memory t)
unfolding chain ticks read_by through descriptor_of absolute_address word_at pointer_leads descriptor_word word_through
chain_ticks m f none zero h true t = refl
chain_ticks m f none zero h false t = ap (λ n. n + 64) (none t)
chain_ticks m f none (suc left) h false t = ap (λ n. n + (64 - suc left)) (none t) ∙ zero-add (64 - suc left)
chain_ticks m f none (suc left) h true t =
    rw (← answer_by_dbr m t) (ticked_after _ _ (64 - suc left) t _ _ (one_less left h _ ∙ chain_ticks m f none left (omega arith) _ _) refl)

nothing_before : (n : ℕ) → n ≡ n + (64 - 64)
nothing_before n = omega arith

pub chain_counted : (m : Machine) (t : Pointer) (x : Result Address AddressFault) → Addressed m.registers.dbr m.memory t x → (f : Pointer → Program) →
    ((u : Pointer) → ticks m (f u) ≡ 0) → ticks m (chain 64 true t f) ≡ read_by (as_formed x)
chain_counted m t x s f none = nothing_before _ ∙ chain_ticks m f none 64 (omega arith) true t ∙ ap read_by (sym s.same)
