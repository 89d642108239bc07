-- What rings from n up observe and write, judged once; and two machines that agree on all they observe. Assumes nothing.
use mathlib.Core.Path.{◌≡◌, refl, sym, ◌∙◌, ap, subst}
use mathlib.Core.Bool.{Bool, true, false, true≢false}
use mathlib.Core.List.{List}
use Prim.Native.Nat.{ℕ, zero, suc, ◌+◌, ◌<◌}
use lib.ListN.{length, get_or, set, length-set}
use lib.Seq.{get_or-set_other}
use Rattle.model.specs.Words.{Pointer}
use Rattle.model.specs.Registers.{Dbr, Machine}
use Rattle.model.specs.Program.{Outcome, faults, completes, or_fault, unless_fault}
use Rattle.model.specs.Reach.{SameDescriptors, observable_through, writable_through}
use Rattle.model.proofs.DescriptorLaws.{same_observable_through, same_writable_through}

-- WORDS ARE JUDGED ONCE, at the start: those on which two memories agree, and those that may change
pub record View : Type 0 where
  pub observable : ℕ → Bool
  pub writable : ℕ → Bool

-- the view has all that m's descriptor segment lets rings from n up do, and the descriptor words are observable and unwritable
pub record Views (n : ℕ) (v : View) (m : Machine) : Type 0 where
  pub descriptors_observable : (s : ℕ) → s < m.registers.dbr.length → v.observable (m.registers.dbr.address + s) ≡ true
  pub descriptors_unwritable : (s : ℕ) → s < m.registers.dbr.length → v.writable (m.registers.dbr.address + s) ≡ false
  pub has_observable : (x s : ℕ) → observable_through n m x s ≡ true → v.observable x ≡ true
  pub has_writable : (x s : ℕ) → writable_through n m x s ≡ true → v.writable x ≡ true

pub same_descriptors_same_view : {n : ℕ} {v : View} {m k : Machine} → SameDescriptors m k → Views n v m → Views n v k
same_descriptors_same_view {n} {v} {m} {k} same views =
    record {
      descriptors_observable =
          subst (λ (b : Dbr). (s : ℕ) → s < b.length → v.observable (b.address + s) ≡ true) same.same_dbr views.descriptors_observable;
      descriptors_unwritable =
          subst (λ (b : Dbr). (s : ℕ) → s < b.length → v.writable (b.address + s) ≡ false) same.same_dbr views.descriptors_unwritable;
      has_observable = λ x s e. views.has_observable x s (same_observable_through same n x s ∙ e);
      has_writable = λ x s e. views.has_writable x s (same_writable_through same n x s ∙ e);
    }

abbrev pub Agrees : View → (memory other : List ℕ) → Type 0
Agrees v m k = (x : ℕ) → v.observable x ≡ true → get_or m x 0 ≡ get_or k x 0

-- two machines that rings from n up can't tell apart by their words
pub record Indistinct (n : ℕ) (v : View) (m k : Machine) : Type 0 where
  pub views : Views n v m
  pub same_dbr : m.registers.dbr ≡ k.registers.dbr
  pub same_length : length m.memory ≡ length k.memory
  pub agrees : Agrees v m.memory k.memory

-- ONLY WRITABLE WORDS CHANGE
pub record Change (v : View) (before now : List ℕ) : Type 0 where
  pub length_kept : length before ≡ length now
  pub words_kept : (x : ℕ) → v.writable x ≡ false → get_or before x 0 ≡ get_or now x 0

pub no_change : (v : View) (m : List ℕ) → Change v m m
no_change v m = record { length_kept = refl; words_kept = λ x e. refl }

pub change_then : {v : View} {m k l : List ℕ} → Change v m k → Change v k l → Change v m l
change_then c d = record { length_kept = c.length_kept ∙ d.length_kept; words_kept = λ x e. c.words_kept x e ∙ d.words_kept x e }

pub set_changes : (v : View) (m : List ℕ) (x w : ℕ) → v.writable x ≡ true → Change v m (set m x w)
set_changes v m x w o =
    record {
      length_kept = sym (length-set m x w);
      words_kept = λ y e. sym (get_or-set_other m x y w 0 (λ q. true≢false (sym o ∙ ap v.writable (sym q) ∙ e)));
    }

-- AFTER A STEP OF EACH
pub record BothCompleted (v : View) (m k x y : Machine) : Type 0 where
  pub same_registers : x.registers ≡ y.registers
  pub dbr_kept : m.registers.dbr ≡ x.registers.dbr
  pub changed_m : Change v m.memory x.memory
  pub changed_k : Change v k.memory y.memory
  pub agrees : Agrees v x.memory y.memory

pub indistinct_after : {n : ℕ} {v : View} {m k x y : Machine} → Indistinct n v m k → BothCompleted v m k x y → Indistinct n v x y
indistinct_after i c =
    record {
      views =
          same_descriptors_same_view
          (record {
            same_dbr = c.dbr_kept;
            same_length = c.changed_m.length_kept;
            same_descriptor_words = λ s h. c.changed_m.words_kept _ (i.views.descriptors_unwritable s h);
          })
          i.views;
      same_dbr = ap (λ r. r.dbr) c.same_registers;
      same_length = sym c.changed_m.length_kept ∙ i.same_length ∙ c.changed_k.length_kept;
      agrees = c.agrees;
    }

-- the same fault, or both complete; neither halts
pub data Related (v : View) (m k : Machine) : Outcome → Outcome → Type 0 where
  both_fault : (number : ℕ) (t : Pointer) → Related v m k (faults number t) (faults number t)
  both_complete : {x y : Machine} → BothCompleted v m k x y → Related v m k (completes x) (completes y)

pub or_fault_related : {v : View} {m k : Machine} {c d : ℕ} (t : Pointer) {x y : Outcome} → c ≡ d → (c ≡ 0 → Related v m k x y) →
    Related v m k (or_fault c t x) (or_fault d t y)
unfolding or_fault
or_fault_related {v} {m} {k} {c} {d} t {x} {y} p f = subst (λ z. Related v m k (or_fault c t x) (or_fault z t y)) p (by_answer c f)
  where
    by_answer : (c : ℕ) → (c ≡ 0 → Related v m k x y) → Related v m k (or_fault c t x) (or_fault c t y)
    by_answer zero f = f refl
    by_answer (suc c) f = both_fault (suc c) t

pub unless_fault_same : {c d x y : ℕ} → c ≡ d → (c ≡ 0 → x ≡ y) → unless_fault c x ≡ unless_fault d y
unfolding unless_fault
unless_fault_same {c} {d} {x} {y} p f = subst (λ z. unless_fault c x ≡ unless_fault z y) p (by_answer c f)
  where
    by_answer : (c : ℕ) → (c ≡ 0 → x ≡ y) → unless_fault c x ≡ unless_fault c y
    by_answer zero f = f refl
    by_answer (suc c) f = refl
