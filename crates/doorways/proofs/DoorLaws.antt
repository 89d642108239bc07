-- What a descriptor that leads down has, and a machine's doors, segment by segment. Assumes nothing.
use mathlib.Core.Path.{◌≡◌, refl, sym, ap, ◌∙◌}
use mathlib.Core.Bool.{Bool, true, false, cond, ◌&&◌}
use mathlib.Core.List.{List, [], ◌∷◌, ◌++◌}
use Prim.Native.Nat.{ℕ, zero, suc, ◌+◌, ◌≤◌, ◌<◌}
use native.Mathlib.Nat.{add-zero, zero-add}
use native.Mathlib.Numerals.{add-one}
use native.Mathlib.Omega.{arith}
use lib.Dec.{ltb, eqb}
use lib.ListN.{length, get_or}
use borrow.Author.Tests.{ltb-true, ne_eqb}
use Rattle.model.specs.Words.{descriptor_in}
use Rattle.model.specs.Registers.{Machine}
use Rattle.model.specs.Program.{descriptor_of}
use Rattle.model.specs.Reach.{segment_passes}
use Rattle.model.specs.Doors.{Door, has_extension, leads_down, is_door, door, doors_from}
use Rattle.model.proofs.BranchLaws.{and_left, and_right}
use Rattle.model.proofs.WordLaws.{field_within_width}
use Rattle.questions.specs.Numbers.{fault_number}
use Rattle.questions.specs.declared.fault.Fault.{Fault}
use Rattle.questions.proofs.NumberLaws.{fault_from_one}
use Rattle.segments.specs.Translation.{descriptor_answer}
use Rattle.segments.proofs.TranslateLaws.{segment_answer}
use Rattle.doorways.specs.Door.{is_door_by, door_by, doors_by}

-- THE TESTS, from the fields that the code takes out
pub leads_down_by : (w : ℕ) (b : Bool) (g l r2 r3 : ℕ) → b ≡ (descriptor_in w).execute → g ≡ (descriptor_in w).gate → l ≡ (descriptor_in w).length →
    r2 ≡ (descriptor_in w).r2 → r3 ≡ (descriptor_in w).r3 → b && (ltb 0 g && (ltb 0 l && ltb r2 r3)) ≡ leads_down (descriptor_in w)
unfolding leads_down has_extension
leads_down_by w b g l r2 r3 e₁ e₂ e₃ e₄ e₅ = rw (e₁, e₂, e₃, e₄, e₅)

pub is_door_law : (n w a : ℕ) (b : Bool) → a ≡ descriptor_answer n w → b ≡ leads_down (descriptor_in w) → eqb a 0 && b ≡ is_door_by n w
unfolding is_door_by
is_door_law n w a b e f = rw (e, f)

pub door_passes : (n w : ℕ) (b : Bool) → 0 ≡ descriptor_answer n w → b ≡ leads_down (descriptor_in w) → b ≡ is_door_by n w
door_passes n w b e f = is_door_law n w 0 b e f

pub door_refused : (n w : ℕ) (e : Fault) → fault_number e ≡ descriptor_answer n w → false ≡ is_door_by n w
door_refused n w e f = ap (λ z. z && leads_down (descriptor_in w)) (sym (ne_eqb _ _ (λ z. from_one e (fault_from_one e) z))) ∙ is_door_law n w (fault_number e) (leads_down (descriptor_in w)) f refl
  where
    from_one : (e : Fault) → 1 ≤ fault_number e → fault_number e ≡ 0 → ⊥
    from_one e h z = omega (arith, h, z)

-- A RING has one digit
pub r3_one_digit : (w r : ℕ) → r ≡ (descriptor_in w).r3 → r ≤ 9
unfolding descriptor_in
r3_one_digit w r e = let h = field_within_width 46 3 w in omega arith

-- A GATE, and a word: one at least
module _ (w : ℕ) (e : leads_down (descriptor_in w) ≡ true) where
  from_gate : (ltb 0 (descriptor_in w).gate && (ltb 0 (descriptor_in w).length && ltb (descriptor_in w).r2 (descriptor_in w).r3)) ≡ true
  unfolding leads_down has_extension
  from_gate = and_right (descriptor_in w).execute _ e

  pub has_gate : (n : ℕ) → n ≡ (descriptor_in w).gate → 1 ≤ n
  has_gate n q = let h : 0 < (descriptor_in w).gate = ltb-true _ _ (and_left (ltb 0 (descriptor_in w).gate) _ from_gate) in omega arith

  pub has_word : (n : ℕ) → n ≡ (descriptor_in w).length → 1 ≤ n
  has_word n q =
      let h : 0 < (descriptor_in w).length = ltb-true _ _ (and_left (ltb 0 (descriptor_in w).length) _ (and_right (ltb 0 (descriptor_in w).gate) _ from_gate)) in omega arith

-- ONE SEGMENT'S DOORS
pub door_leads_down : (n w : ℕ) (b : Bool) → b ≡ is_door_by n w → b ≡ true → leads_down (descriptor_in w) ≡ true
unfolding is_door_by
door_leads_down n w b q e = and_right (eqb (descriptor_answer n w) 0) _ (sym q ∙ e)

abbrev segment_doors : Machine → (segment : ℕ) → List Door
segment_doors m s = cond (is_door m s) (door m s ∷ []) []

module _ (m : Machine) where
  -- by its descriptor's word
  doors_by_word : (s : ℕ) → s < m.registers.dbr.length → segment_doors m s ≡ doors_by (length m.memory) s (get_or m.memory (m.registers.dbr.address + s) 0)
  unfolding is_door segment_passes door descriptor_of is_door_by door_by doors_by
  doors_by_word s h =
      let w = get_or m.memory (m.registers.dbr.address + s) 0 in
      let answer = segment_answer (length m.memory) m.registers.dbr s w h in
      ap (λ a. cond (eqb a 0 && leads_down (descriptor_in w)) (door m s ∷ []) []) answer

  -- THE DOORS of one segment more
  doors_append : (n s : ℕ) → doors_from (suc n) s m ≡ doors_from n s m ++ segment_doors m (s + n)
  unfolding doors_from
  doors_append zero s = ap (segment_doors m) (sym (add-zero s))
  doors_append (suc n) s =
      let e : suc s + n ≡ s + suc n = omega arith in
      ap (λ xs. cond (is_door m s) (door m s ∷ xs) xs) (doors_append n (suc s) ∙ ap (λ k. doors_from n (suc s) m ++ segment_doors m k) e)
      ∙ by_test (is_door m s) (door m s) (doors_from n (suc s) m) (segment_doors m (s + suc n))
    where
      by_test : (b : Bool) (x : Door) (xs ys : List Door) → cond b (x ∷ (xs ++ ys)) (xs ++ ys) ≡ cond b (x ∷ xs) xs ++ ys
      by_test true x xs ys = refl
      by_test false x xs ys = refl

  pub one_segment_more : (k : ℕ) → k < m.registers.dbr.length →
      doors_from (k + 1) 0 m ≡ doors_from k 0 m ++ doors_by (length m.memory) k (get_or m.memory (m.registers.dbr.address + k) 0)
  one_segment_more k h =
      ap (λ n. doors_from n 0 m) (add-one k) ∙ doors_append k 0 ∙ ap (λ s. doors_from k 0 m ++ segment_doors m s) (zero-add k)
      ∙ ap (λ xs. doors_from k 0 m ++ xs) (doors_by_word k h)
