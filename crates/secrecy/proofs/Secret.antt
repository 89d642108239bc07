-- Every program that asks from ring n up treats two machines alike that agree on what rings from n up observe. No opcode is named here. Assumes nothing.
use mathlib.Core.Path.{◌≡◌, refl, sym, ◌∙◌, ap, subst}
use mathlib.Core.Bool.{Bool, true, false, ◌||◌}
use Prim.Native.Nat.{ℕ, suc, ◌≤◌, ◌<◌}
use lib.Dec.{eqb}
use lib.ListN.{length, get_or, set}
use lib.Seq.{get_or-set_same, get_or-set_other}
use borrow.Author.Tests.{eqb-true, eqb-false, eq-eqb, le-leb}
use Rattle.model.specs.Words.{Descriptor, Pointer}
use Rattle.model.specs.Registers.{Dbr, Machine, machine}
use Rattle.model.specs.Questions.{Question}
use Rattle.model.specs.Program.{Program, fail, finish, halt, look, read, tick, write, descriptor_of, absolute_address, word_at, execute, ticks}
use Rattle.model.specs.Reach.{SameDescriptors, segment_passes, observable_through, writable_through}
use Rattle.model.proofs.BranchLaws.{and_both}
use Rattle.model.proofs.QuestionLaws.{use_passes_segment}
use Rattle.model.proofs.ProgramLaws.{UsePasses, answer_passes, address_within_memory}
use Rattle.model.proofs.DescriptorLaws.{use_passes_known, use_passes_covers, same_descriptor, same_use_answer, same_absolute_address}
use Rattle.secrecy.proofs.View.{View, Agrees, Indistinct, no_change, set_changes, Related, both_fault, both_complete, or_fault_related, unless_fault_same}

-- PROGRAMS THAT ASK FROM RING n UP: a passed question lets a ring from n up read, or write, that segment; DBR b is kept, and the run goes on
unfoldable pub MayRead : (ring : ℕ) → Question → Type 0
MayRead n q = (d : Descriptor) → q d ≡ 0 → ((d.read || d.execute) ≡ true) × (n ≤ d.r2)

unfoldable pub MayWrite : (ring : ℕ) → Question → Type 0
MayWrite n q = (d : Descriptor) → q d ≡ 0 → (d.write ≡ true) × (n ≤ d.r1)

unfoldable pub High : (ring : ℕ) → Dbr → Program → Type 0
High n b (fail c t) = Unit {0}
High n b (finish r) = b ≡ r.dbr
High n b (halt r) = ⊥
High n b (look q t f) = (d : Descriptor) → q d ≡ 0 → High n b (f d)
High n b (read q t f) = MayRead n q × ((d : Descriptor) (w : ℕ) → q d ≡ 0 → High n b (f d w))
High n b (tick p) = High n b p
High n b (write q t w r) = MayWrite n q × (b ≡ r.dbr)

module _ {n : ℕ} {v : View} {m k : Machine} (i : Indistinct n v m k) where
  pub indistinct_descriptors : SameDescriptors m k
  indistinct_descriptors =
      record {
        same_dbr = i.same_dbr;
        same_length = i.same_length;
        same_descriptor_words = λ s h. i.agrees _ (i.views.descriptors_observable s h);
      }

  pub same_descriptor_used : (t : Pointer) → UsePasses m t → descriptor_of m t.segment ≡ descriptor_of k t.segment
  same_descriptor_used t e = same_descriptor indistinct_descriptors t.segment (use_passes_known m t e)

  pub word_observable : (t : Pointer) → UsePasses m t → ((descriptor_of m t.segment).read || (descriptor_of m t.segment).execute) ≡ true →
      n ≤ (descriptor_of m t.segment).r2 → v.observable (absolute_address m t) ≡ true
  unfolding observable_through segment_passes UsePasses
  word_observable t e f h =
      i.views.has_observable (absolute_address m t) t.segment
      (and_both _ _ (eq-eqb _ _ (use_passes_segment _ _ _ _ e)) (and_both _ _ (use_passes_covers m t e) (and_both _ _ f (le-leb _ _ h))))

  pub word_writable : (t : Pointer) → UsePasses m t → (descriptor_of m t.segment).write ≡ true → n ≤ (descriptor_of m t.segment).r1 →
      v.writable (absolute_address m t) ≡ true
  unfolding writable_through segment_passes UsePasses
  word_writable t e f h =
      i.views.has_writable (absolute_address m t) t.segment
      (and_both _ _ (eq-eqb _ _ (use_passes_segment _ _ _ _ e)) (and_both _ _ (use_passes_covers m t e) (and_both _ _ f (le-leb _ _ h))))

  pub same_word : (t : Pointer) → UsePasses m t → ((descriptor_of m t.segment).read || (descriptor_of m t.segment).execute) ≡ true →
      n ≤ (descriptor_of m t.segment).r2 → word_at m t ≡ word_at k t
  unfolding word_at
  same_word t e f h =
      i.agrees (absolute_address m t) (word_observable t e f h) ∙ ap (λ x. get_or k.memory x 0) (same_absolute_address indistinct_descriptors t e)

  pub set_agrees : (x w : ℕ) → x < length m.memory → Agrees v (set m.memory x w) (set k.memory x w)
  set_agrees x w h z e = by_test (eqb z x) refl
    where
      by_test : (t : Bool) → eqb z x ≡ t → get_or (set m.memory x w) z 0 ≡ get_or (set k.memory x w) z 0
      by_test true q =
          subst (λ y. get_or (set m.memory x w) y 0 ≡ get_or (set k.memory x w) y 0) (sym (eqb-true z x q))
          (get_or-set_same m.memory x w 0 h ∙ sym (get_or-set_same k.memory x w 0 (subst (λ l. x < l) i.same_length h)))
      by_test false q =
          get_or-set_other m.memory x z w 0 (eqb-false z x q) ∙ i.agrees z e ∙ sym (get_or-set_other k.memory x z w 0 (eqb-false z x q))

  -- THE LAW
  pub secret : (p : Program) → High n m.registers.dbr p → Related v m k (execute m p) (execute k p)
  unfolding execute High MayRead MayWrite machine
  secret (fail c t) h = both_fault c t
  secret (finish r) h =
      both_complete record {
        same_registers = refl;
        dbr_kept = h;
        changed_m = no_change v m.memory;
        changed_k = no_change v k.memory;
        agrees = i.agrees;
      }
  secret (halt r) h = absurd h
  secret (look q t f) h =
      or_fault_related t (same_use_answer indistinct_descriptors t q)
      (λ e.
      let z = answer_passes m t q e in
      rw (← (same_descriptor_used t z.0)) (secret (f (descriptor_of m t.segment)) (h _ z.1)))
  secret (read q t f) h =
      or_fault_related t (same_use_answer indistinct_descriptors t q)
      (λ e.
      let z = answer_passes m t q e in
      let y = h.0 (descriptor_of m t.segment) z.1 in
      rw (← (same_descriptor_used t z.0), ← (same_word t z.0 y.0 y.1))
      (secret (f (descriptor_of m t.segment) (word_at m t)) (h.1 _ _ z.1)))
  secret (tick p) h = secret p h
  secret (write q t w r) h =
      or_fault_related t (same_use_answer indistinct_descriptors t q)
      (λ e.
      let z = answer_passes m t q e in
      let y = h.0 (descriptor_of m t.segment) z.1 in
      let o = word_writable t z.0 y.0 y.1 in
      rw (← (same_absolute_address indistinct_descriptors t z.0))
      (both_complete record {
        same_registers = refl;
        dbr_kept = h.1;
        changed_m = set_changes v m.memory (absolute_address m t) w o;
        changed_k = set_changes v k.memory (absolute_address m t) w o;
        agrees = set_agrees (absolute_address m t) w (address_within_memory m t z.0);
      }))

  -- and as many pointer words are read
  pub same_ticks : (p : Program) → High n m.registers.dbr p → ticks m p ≡ ticks k p
  unfolding ticks High MayRead
  same_ticks (fail c t) h = refl
  same_ticks (finish r) h = refl
  same_ticks (halt r) h = refl
  same_ticks (look q t f) h =
      unless_fault_same (same_use_answer indistinct_descriptors t q)
      (λ e.
      let z = answer_passes m t q e in
      rw (← (same_descriptor_used t z.0)) (same_ticks (f (descriptor_of m t.segment)) (h _ z.1)))
  same_ticks (read q t f) h =
      unless_fault_same (same_use_answer indistinct_descriptors t q)
      (λ e.
      let z = answer_passes m t q e in
      let y = h.0 (descriptor_of m t.segment) z.1 in
      rw (← (same_descriptor_used t z.0), ← (same_word t z.0 y.0 y.1))
      (same_ticks (f (descriptor_of m t.segment) (word_at m t)) (h.1 _ _ z.1)))
  same_ticks (tick p) h = ap suc (same_ticks p h)
  same_ticks (write q t w r) h = refl
