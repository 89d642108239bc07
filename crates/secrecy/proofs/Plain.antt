-- The machine of the model in lockstep: two machines that rings from n up can't tell apart stay so, as long as they are in ring n or above. Assumes nothing.
use mathlib.Core.Path.{◌≡◌, refl, sym, ◌∙◌, ap, ap₂, subst}
use mathlib.Core.Bool.{true, false, not, ◌&&◌}
use mathlib.Core.List.{List}
use Prim.Native.Nat.{ℕ, ◌≤◌}
use lib.Dec.{ltb, leb, eqb}
use lib.ListN.{length}
use borrow.Author.Tests.{ltb-false, not-true}
use Rattle.model.specs.Registers.{Delivery, Machine}
use Rattle.model.specs.Program.{Outcome, execute, ticks}
use Rattle.model.specs.Step.{step_program, step, pointer_words}
use Rattle.model.specs.Reach.{SameDescriptors}
use Rattle.model.specs.Deliver.{can_save, delivers, deliver, step_with, is_delivered}
use Rattle.model.specs.Run.{traced}
use Rattle.model.proofs.DescriptorLaws.{same_passed_test}
use Rattle.secrecy.proofs.View.{View, Indistinct, Change, change_then, indistinct_after, Related, both_fault, both_complete}
use Rattle.secrecy.proofs.Secret.{indistinct_descriptors, secret, same_ticks}
use Rattle.secrecy.proofs.High.{high_step}
use Rattle.secrecy.proofs.Lockstep.{AlikeNext, both_stop, both_go_on, AlikeRan, run_from, notes_from, stretch, same_stretch, alike_within, same_notes}
use Rattle.secrecy.proofs.Runs.{next_of, next, note, above, leaves}

-- THE STEP: the same fault, or both complete alike
pub same_step : {n : ℕ} {v : View} {m k : Machine} → Indistinct n v m k → m.registers ≡ k.registers → 1 ≤ n → n ≤ m.registers.ipr.ring →
    Related v m k (step m) (step k)
unfolding step
same_step {n} {v} {m} {k} i same one h =
    subst (λ p. Related v m k (step m) (execute k p)) (ap₂ step_program i.same_length same)
    (secret i (step_program (length m.memory) m.registers) (high_step n m.registers (length m.memory) one h))

pub same_pointer_words : {n : ℕ} {v : View} {m k : Machine} → Indistinct n v m k → m.registers ≡ k.registers → 1 ≤ n → n ≤ m.registers.ipr.ring →
    pointer_words m ≡ pointer_words k
unfolding pointer_words
same_pointer_words {n} {v} {m} {k} i same one h =
    same_ticks i (step_program (length m.memory) m.registers) (high_step n m.registers (length m.memory) one h)
    ∙ ap (ticks k) (ap₂ step_program i.same_length same)

-- the save segment's descriptor is a descriptor word, so both deliver a fault or neither does
same_delivers : (w : Delivery) {m k : Machine} → SameDescriptors m k → delivers w m ≡ delivers w k
unfolding delivers can_save
same_delivers w {m} {k} same = ap (λ b. eqb w.switch 1 && b) (same_passed_test same (λ d. leb 13 d.length && d.write) w.save)

-- two machines of two runs that began with memories m and k
pub record Twin (n : ℕ) (v : View) (m k : List ℕ) (x y : Machine) : Type 0 where
  pub same_registers : x.registers ≡ y.registers
  pub indistinct : Indistinct n v x y
  pub changed_m : Change v m x.memory
  pub changed_k : Change v k y.memory

module _ (w : Delivery) (n : ℕ) (v : View) (m k : List ℕ) (one : 1 ≤ n) where
  twin_next : (x y : Machine) → Twin n v m k x y → {p q : Outcome} → Related v x y p q → is_delivered w x p ≡ false →
      AlikeNext (Twin n v m k) (next_of (deliver w x p)) (next_of (deliver w y q))
  unfolding next_of deliver is_delivered
  twin_next x y a (both_fault c t) e = rw (e, sym (same_delivers w (indistinct_descriptors a.indistinct)) ∙ e) (both_stop _)
  twin_next x y a (both_complete c) e =
      both_go_on record {
        same_registers = c.same_registers;
        indistinct = indistinct_after a.indistinct c;
        changed_m = change_then a.changed_m c.changed_m;
        changed_k = change_then a.changed_k c.changed_k;
      }

  pub twin_count : {x y : Machine} → Twin n v m k x y → above n x ≡ true → pointer_words x ≡ pointer_words y
  unfolding above
  twin_count a e = same_pointer_words a.indistinct a.same_registers one (ltb-false _ _ (not-true _ e))

  twin_note : (x y u z : Machine) → Twin n v m k x y → above n x ≡ true → Twin n v m k u z → note x u ≡ note y z
  unfolding note traced
  twin_note x y u z a e b = ap₂ (λ r c. record { ipr = r.ipr; pointers = c }) b.same_registers (twin_count a e)

  twin_steps : {x y : Machine} → Twin n v m k x y → above n x ≡ true → Related v x y (step x) (step y)
  unfolding above
  twin_steps a e = same_step a.indistinct a.same_registers one (ltb-false _ _ (not-true _ e))

  twin_law : (x y : Machine) → Twin n v m k x y → above n x ≡ true → leaves w x ≡ false → AlikeNext (Twin n v m k) (next w x) (next w y)
  unfolding next leaves step_with
  twin_law x y a e f = twin_next x y a (twin_steps a e) f

  twin_leaves : (x y : Machine) → Twin n v m k x y → above n x ≡ true → leaves w x ≡ leaves w y
  unfolding leaves
  twin_leaves x y a e = by_steps (twin_steps a e)
    where
      by_steps : {p q : Outcome} → Related v x y p q → is_delivered w x p ≡ is_delivered w y q
      by_steps (both_fault c t) = unfold is_delivered in same_delivers w (indistinct_descriptors a.indistinct)
      by_steps (both_complete c) = unfold is_delivered in refl

  twin_above : (x y : Machine) → Twin n v m k x y → above n x ≡ above n y
  unfolding above
  twin_above x y a = ap (λ r. not (ltb r.ipr.ring n)) a.same_registers

  pub twins_stretch : (b : ℕ) (x y : Machine) → Twin n v m k x y → above n x ≡ true → stretch (next w) (above n) (leaves w) b x ≡ stretch (next w) (above n) (leaves w) b y
  twins_stretch = same_stretch (next w) (above n) (leaves w) (Twin n v m k) twin_law twin_above twin_leaves

  pub twins_run : (j b c : ℕ) (x y : Machine) → Twin n v m k x y → above n x ≡ true → j ≤ stretch (next w) (above n) (leaves w) b x →
      AlikeRan (Twin n v m k) (run_from (next w) j c x) (run_from (next w) j c y)
  twins_run = alike_within (next w) (above n) (leaves w) (Twin n v m k) twin_law twin_above twin_leaves

  pub twins_trace : (j b : ℕ) (x y : Machine) → Twin n v m k x y → above n x ≡ true → j ≤ stretch (next w) (above n) (leaves w) b x →
      notes_from (next w) note j x ≡ notes_from (next w) note j y
  twins_trace = same_notes (next w) (above n) (leaves w) (Twin n v m k) twin_law twin_above twin_leaves note twin_note
