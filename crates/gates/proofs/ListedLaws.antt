-- The list of doors has every gate that leads down, and nothing else. Assumes nothing.
use mathlib.Core.Path.{◌≡◌, refl, sym, ◌∙◌, ap, ap₂, subst}
use mathlib.Core.Bool.{Bool, true, false, cond}
use mathlib.Core.List.{◌∷◌}
use mathlib.Core.Logic.{inl, inr}
use Prim.Native.Nat.{ℕ, zero, suc, ◌+◌, ◌≤◌, ◌<◌}
use native.Mathlib.Omega.{arith}
use lib.Dec.{ltb, eqb}
use lib.ListN.{length}
use borrow.Author.Tests.{ltb-true, lt-ltb, le-leb, eqb-true, eq-eqb}
use Rattle.model.specs.Words.{Descriptor, Pointer}
use Rattle.model.specs.Registers.{Dbr, Delivery, Machine, with_ring_at_least}
use Rattle.model.specs.Questions.{pointer_in_range, start_questions, segment_questions, new_ring, call_questions}
use Rattle.model.specs.Program.{descriptor_of}
use Rattle.model.specs.Reach.{SameDescriptors, segment_passes}
use Rattle.model.specs.Run.{unless_refused}
use Rattle.model.specs.Check.{refused, passes, answered, checked, check_questions, check}
use Rattle.model.specs.Doors.{Door, has_extension, leads_down, is_door, door, doors_from, doors}
use Rattle.model.proofs.BranchLaws.{cond_rel, cond_holds, and_left, and_right, and_both, or_right, by_equality}
use Rattle.model.proofs.QuestionLaws.{ask_both, segment_known, segment_rings, use_passes_segment, word_within_segment}
use Rattle.model.proofs.ProgramLaws.{answer_yes}
use Rattle.model.proofs.DescriptorLaws.{same_descriptor, same_passed_test}
use Rattle.model.proofs.SoundLaws.{memory_passes}
use Rattle.gates.specs.Falling.{ring_of, ThroughGate}
use Rattle.gates.specs.Listed.{Among, SameDoors, GatesAreListed, ListedLeadsDown, ListedPasses}

-- A DOOR'S DESCRIPTOR
record Opens (m : Machine) (s : ℕ) (d : Descriptor) : Type 0 where
  segment_passes : segment_questions (length m.memory) m.registers.dbr s d ≡ 0
  execute_on : d.execute ≡ true
  has_gate : 0 < d.gate
  has_word : 0 < d.length
  has_ring : d.r2 < d.r3

extension_has_ring : (d : Descriptor) → has_extension d ≡ true → d.r2 < d.r3
unfolding has_extension
extension_has_ring d e = omega (arith, ltb-true)

ring_has_extension : (d : Descriptor) → d.r2 < d.r3 → has_extension d ≡ true
unfolding has_extension
ring_has_extension d h = omega (arith, lt-ltb)

door_opens : (m : Machine) (s : ℕ) → is_door m s ≡ true → Opens m s (descriptor_of m s)
unfolding is_door segment_passes leads_down
door_opens m s e =
    let d = descriptor_of m s in
    let test_11_to_14 = eqb (segment_questions (length m.memory) m.registers.dbr s d) 0 in
    let from_execute = and_right test_11_to_14 _ e in
    let from_gate = and_right d.execute _ from_execute in
    let from_word = and_right (ltb 0 d.gate) _ from_gate in
    record {
      segment_passes = eqb-true _ _ (and_left test_11_to_14 _ e);
      execute_on = and_left d.execute _ from_execute;
      has_gate = ltb-true _ _ (and_left (ltb 0 d.gate) _ from_gate);
      has_word = ltb-true _ _ (and_left (ltb 0 d.length) _ from_word);
      has_ring = extension_has_ring d (and_right (ltb 0 d.length) _ from_word);
    }

opens_is_door : (m : Machine) (s : ℕ) → Opens m s (descriptor_of m s) → is_door m s ≡ true
unfolding is_door segment_passes leads_down
opens_is_door m s h =
    and_both _ _ (eq-eqb _ _ h.segment_passes)
    (and_both _ _ h.execute_on
    (and_both _ _ (lt-ltb _ _ h.has_gate) (and_both _ _ (lt-ltb _ _ h.has_word) (ring_has_extension (descriptor_of m s) h.has_ring))))

-- THE LIST
listed_is_door : (m : Machine) (x : Door) (n s : ℕ) → Among x (doors_from n s m) → (is_door m x.segment ≡ true) × (x ≡ door m x.segment)
unfolding doors_from Among door
listed_is_door m x zero s h = absurd h
listed_is_door m x (suc n) s h = by_test (is_door m s) refl h (λ g. listed_is_door m x n (suc s) g)
  where
    by_test : (b : Bool) → is_door m s ≡ b → Among x (cond b (door m s ∷ doors_from n (suc s) m) (doors_from n (suc s) m)) →
        (Among x (doors_from n (suc s) m) → (is_door m x.segment ≡ true) × (x ≡ door m x.segment)) →
        (is_door m x.segment ≡ true) × (x ≡ door m x.segment)
    by_test true e (inl q) ih = subst (λ (y : Door). (is_door m y.segment ≡ true) × (y ≡ door m y.segment)) (sym q) (e, refl)
    by_test true e (inr g) ih = ih g
    by_test false e g ih = ih g

door_is_listed : (m : Machine) (s n first : ℕ) → first ≤ s → s < first + n → is_door m s ≡ true → Among (door m s) (doors_from n first m)
unfolding doors_from Among
door_is_listed m s zero first l h e = absurd (omega arith)
door_is_listed m s (suc n) first l h e =
    by_equality s first (λ q. rw (ap (is_door m) (sym q) ∙ e) (inl (ap (door m) q)))
    (λ other.
    let g = door_is_listed m s n (suc first) (omega arith) (omega arith) e in
    cond_holds (Among (door m s)) (is_door m first) (λ _. inr g) (λ _. g))

-- of equal descriptors
module _ {m k : Machine} (same : SameDescriptors m k) where
  same_is_door : (s : ℕ) → is_door m s ≡ is_door k s
  unfolding is_door
  same_is_door s = same_passed_test same leads_down s

  same_door : (s : ℕ) → is_door m s ≡ true → door m s ≡ door k s
  unfolding door
  same_door s e = rw (same_descriptor same s (segment_known _ _ _ _ (door_opens m s e).segment_passes))

  same_doors_from : (n s : ℕ) → doors_from n s m ≡ doors_from n s k
  unfolding doors_from
  same_doors_from zero s = refl
  same_doors_from (suc n) s =
      let rest = same_doors_from n (suc s) in
      cond_rel (λ xs ys. xs ≡ ys) {b = is_door m s} (same_is_door s) (λ e. ap₂ ◌∷◌ (same_door s e) rest) (λ _. rest)

pub same_doors : SameDoors
unfolding doors
same_doors m k same = same_doors_from same m.registers.dbr.length 0 ∙ ap (λ (b : Dbr). doors_from b.length 0 k) same.same_dbr

-- NOT SHORT
gate_opens : (m k : Machine) → (g : ThroughGate m k) → Opens m g.target.segment (descriptor_of m g.target.segment)
gate_opens m k g =
    let word = word_within_segment _ _ _ _ g.target_passes in
    record {
      segment_passes = use_passes_segment _ _ _ _ g.target_passes;
      execute_on = g.execute_on;
      has_gate = omega arith;
      has_word = omega arith;
      has_ring = omega arith;
    }

pub gates_are_listed : GatesAreListed
unfolding doors door
gates_are_listed start m k same g =
    let s = g.target.segment in
    let opens = gate_opens m k g in
    let known = segment_known _ _ _ _ opens.segment_passes in
    let word = word_within_segment _ _ _ _ g.target_passes in
    let listed = door_is_listed m s m.registers.dbr.length 0 (omega arith) (omega arith) (opens_is_door m s opens) in
    record {
      door = door m s;
      is_listed = subst (Among (door m s)) (sym (same_doors start m same)) listed;
      of_segment = refl;
      at_word = omega arith;
      from_ring = g.above_r2;
      up_to_ring = g.within_r3;
      into_ring = ap (λ (p : Pointer). p.ring) g.enters;
    }

-- NOT LONG
pub listed_leads_down : ListedLeadsDown
unfolding doors door
listed_leads_down start x listed =
    let h = listed_is_door start x _ 0 listed in
    let ring = (door_opens start x.segment h.0).has_ring in
    subst (λ (y : Door). (y.from ≤ y.to) × (y.new < y.from)) (sym h.1) (omega arith, omega arith)

-- 26 to 30 of a call through a gate
gate_lets_through : (ipr t : Pointer) (d : Descriptor) → d.execute ≡ true → t.word < d.gate → d.r1 ≤ d.r2 → d.r2 < ipr.ring → ipr.ring ≤ t.ring →
    t.ring ≤ d.r3 → call_questions ipr t d ≡ 0
unfolding call_questions new_ring
gate_lets_through ipr t d execute_on below_gate bracket above_r2 raised within_r3 =
    ask_both _ _ _ execute_on
    (ask_both _ _ _ (or_right (eqb t.segment ipr.segment) _ (omega (arith, lt-ltb)))
    (ask_both _ _ _ (omega (arith, le-leb)) (ask_both _ _ _ (omega (arith, le-leb)) (ask_both _ _ _ (omega (arith, le-leb)) refl))))

-- 1 to 4 and 2 of the pointer, 11 to 15, then those
door_passes : (v : Delivery) (m : Machine) (p : Pointer) → is_door m p.segment ≡ true → start_questions v m ≡ 0 → pointer_in_range p ≡ true →
    p.word ≤ (door m p.segment).last → p.ring ≤ (door m p.segment).to → (door m p.segment).from ≤ ring_of m → ring_of m ≤ (door m p.segment).to →
    check v m p ≡ passes (door m p.segment).new
unfolding door check check_questions checked answered unless_refused with_ring_at_least new_ring
door_passes v m p e start range word ring from to =
    let d = descriptor_of m p.segment in
    let t = with_ring_at_least (ring_of m) p in
    let opens = door_opens m p.segment e in
    let has_gate = opens.has_gate in
    let has_word = opens.has_word in
    let bracket = (segment_rings _ _ _ _ opens.segment_passes).0 in
    let lets_through = gate_lets_through m.registers.ipr t d opens.execute_on (omega arith) bracket (omega arith) (omega arith) (omega arith) in
    let answer = answer_yes m t (call_questions m.registers.ipr t) opens.segment_passes (omega arith) lets_through in
    let goes_ahead : check_questions v m p ≡ 0 = ask_both _ _ _ (memory_passes v m start) (ask_both _ _ _ range start) in
    let ring_is_r2 : new_ring t d ≡ d.r2 = omega arith in
    ap (λ a. unless_refused a refused (checked m t)) goes_ahead ∙ ap (λ a. answered a t (new_ring t d)) answer ∙ ap passes ring_is_r2

pub listed_passes : ListedPasses
unfolding doors
listed_passes v start m x p same listed e range s word ring from to =
    let h = listed_is_door m x _ 0 (subst (Among x) (same_doors start m same) listed) in
    subst
    (λ (y : Door). p.word ≤ y.last → p.ring ≤ y.to → y.from ≤ ring_of m → ring_of m ≤ y.to → check v m p ≡ passes y.new)
    (sym (h.1 ∙ ap (door m) (sym s))) (door_passes v m p (ap (is_door m) s ∙ h.0) e range) word ring from to
