-- The list line by line, and what 1 to 4 say before it. Assumes nothing.
use mathlib.Core.Path.{◌≡◌, refl, sym, ap, ◌∙◌, subst}
use mathlib.Core.Bool.{Bool, true, false, cond}
use mathlib.Core.List.{List, [], ◌∷◌, ◌++◌, append-nil, append_assoc}
use Prim.Native.Nat.{ℕ, ◌+◌, ◌*◌, ◌≤◌, ◌<◌}
use native.Mathlib.Omega.{arith}
use lib.Dec.{leb}
use lib.ListN.{length, get_or, length-append}
use borrow.Author.Tests.{leb-true}
use Rattle.model.specs.Words.{descriptor_in}
use Rattle.model.specs.Registers.{Delivery, Machine}
use Rattle.model.specs.Questions.{dbr_fits, start_questions}
use Rattle.model.specs.Image.{checked}
use Rattle.model.specs.Listing.{ascii, line, refusal_line}
use Rattle.model.specs.Doors.{Door, doors_from, doors, door_line, door_lines, faults_line, doors_line, doors_listing, image_doors}
use Rattle.model.proofs.BranchLaws.{and_left, and_right}
use Rattle.model.proofs.QuestionLaws.{ask_yes}
use Rattle.questions.specs.Numbers.{start_number}
use Rattle.questions.specs.declared.start.StartError.{StartError}
use Rattle.formats.proofs.ImageLaws.{checked_refused, checked_passed}
use Rattle.text.specs.Text.{placed, Put}
use Rattle.text.proofs.TextLaws.{placed_none, both_put}
use Rattle.parts.proofs.PartLaws.{ended}
use Rattle.doorways.specs.Door.{is_door_by, door_by, doors_by}
use Rattle.doorways.proofs.DoorLaws.{one_segment_more}
use Rattle.doorways.proofs.LineLaws.{put_within}

-- ONE SEGMENT
module _ (n s w : ℕ) (b : Bool) (q : b ≡ is_door_by n w) where
  module _ (e : b ≡ true) where
    one_door : doors_by n s w ≡ door_by s (descriptor_in w) ∷ []
    unfolding doors_by
    one_door = ap (λ x. cond x (door_by s (descriptor_in w) ∷ []) []) (sym q ∙ e)

    pub door_listed : (a r : ℕ) (t u : List ℕ) → Put 32 a (door_line (door_by s (descriptor_in w))) t u r → Put 32 a (door_lines (doors_by n s w)) t u r
    unfolding door_lines
    door_listed a r t u p = subst (λ bs. Put 32 a bs t u r) (sym (append-nil _) ∙ ap door_lines (sym one_door)) p

    pub door_counted : (k : ℕ) → k + 1 ≡ k + length (doors_by n s w)
    door_counted k = omega (arith, ap length one_door)

  module _ (e : b ≡ false) where
    no_door : doors_by n s w ≡ []
    unfolding doors_by
    no_door = ap (λ x. cond x (door_by s (descriptor_in w) ∷ []) []) (sym q ∙ e)

    pub no_door_listed : (a : ℕ) (t : List ℕ) → Put 32 a (door_lines (doors_by n s w)) t t a
    unfolding door_lines
    no_door_listed a t = rw no_door (sym (placed_none a t), omega arith, omega arith)

    pub no_door_counted : (k : ℕ) → k ≡ k + length (doors_by n s w)
    no_door_counted k = omega (arith, ap length no_door)

pub ruleset segment_laws = (door_listed, door_counted, no_door_listed, no_door_counted)

-- at most one door each
pub count_within : (n s w k c d : ℕ) → c ≤ k → d ≡ c + length (doors_by n s w) → d ≤ k + 1
unfolding doors_by
count_within n s w k c d h e = let one = at_most_one (is_door_by n w) in omega arith
  where
    at_most_one : (b : Bool) → length (cond b (door_by s (descriptor_in w) ∷ []) []) ≤ 1
    at_most_one true = omega arith
    at_most_one false = omega arith

-- THE DOORS of one segment after another
lines_append : (xs ys : List Door) → door_lines (xs ++ ys) ≡ door_lines xs ++ door_lines ys
unfolding door_lines
lines_append [] ys = refl
lines_append (x ∷ xs) ys = ap (λ bs. door_line x ++ bs) (lines_append xs ys) ∙ sym (append_assoc (door_line x) (door_lines xs) (door_lines ys))

-- before the first
module _ (m : Machine) where
  pub no_lines_put : (t : List ℕ) → t ≡ placed 0 (door_lines (doors_from 0 0 m)) t
  unfolding doors_from door_lines
  no_lines_put t = sym (placed_none 0 t)

  pub no_lines_long : 0 ≡ 0 + length (door_lines (doors_from 0 0 m))
  unfolding doors_from door_lines
  no_lines_long = refl

  pub none_counted : 0 ≡ length (doors_from 0 0 m)
  unfolding doors_from
  none_counted = refl

pub ruleset none_so_far = (no_lines_put, no_lines_long, none_counted)

-- after one more
module _ (m : Machine) (k : ℕ) (h : k < m.registers.dbr.length) where
  abbrev here : List Door
  here = doors_by (length m.memory) k (get_or m.memory (m.registers.dbr.address + k) 0)

  pub lines_on : (a b : ℕ) (t₀ t u : List ℕ) → Put (32 * k) 0 (door_lines (doors_from k 0 m)) t₀ t a → Put 32 a (door_lines here) t u b →
      32 * (k + 1) ≤ length t₀ → Put (32 * (k + 1)) 0 (door_lines (doors_from (k + 1) 0 m)) t₀ u b
  lines_on a b t₀ t u p q l =
      subst (λ bs. Put (32 * (k + 1)) 0 bs t₀ u b) (sym (ap door_lines (one_segment_more m k h) ∙ lines_append (doors_from k 0 m) here))
      (both_put (32 * (k + 1)) (32 * k) 32 0 a b (door_lines (doors_from k 0 m)) (door_lines here) t₀ t u p q (omega arith) (omega arith))

  pub count_on : (c d : ℕ) → c ≡ length (doors_from k 0 m) → d ≡ c + length here → d ≡ length (doors_from (k + 1) 0 m)
  count_on c d p q = omega (arith, ap length (one_segment_more m k h), length-append (doors_from k 0 m) here)

-- after the last
module _ (m : Machine) (k : ℕ) (h : k ≤ m.registers.dbr.length) (g : m.registers.dbr.length ≤ k) where
  all_doors : doors_from k 0 m ≡ doors m
  unfolding doors
  all_doors = let e : k ≡ m.registers.dbr.length = omega arith in ap (λ n. doors_from n 0 m) e

  pub all_lines : (a : ℕ) (t₀ t : List ℕ) → k ≤ 4096 → Put (32 * k) 0 (door_lines (doors_from k 0 m)) t₀ t a → Put 131072 0 (door_lines (doors m)) t₀ t a
  all_lines a t₀ t l p = put_within (32 * k) 131072 0 a _ t₀ t (omega arith) (subst (λ xs. Put (32 * k) 0 (door_lines xs) t₀ t a) all_doors p)

  pub all_counted : (c : ℕ) → c ≡ length (doors_from k 0 m) → c ≡ length (doors m)
  all_counted c p = p ∙ ap length all_doors

-- 1 TO 4, then the list
pub start_nonzero : (error : StartError) (n : ℕ) → n ≡ start_number error → n ≡ 0 → ⊥
start_nonzero StartError.MemoryTooLarge n e z = omega arith
start_nonzero StartError.OutOfRange n e z = omega arith
start_nonzero StartError.RingsBelow n e z = omega arith
start_nonzero StartError.BaseOutsideMemory n e z = omega arith

module _ (v : Delivery) (m : Machine) (n : ℕ) (e : n ≡ start_questions v m) where
  pub refused_put : (n ≡ 0 → ⊥) → (budget r : ℕ) (name t u : List ℕ) → name ≡ ascii "refused" ++ ascii " " → Put 19 0 (name ++ ended n 10) t u r →
      Put 131136 0 (image_doors (checked v m budget)) t u r
  unfolding image_doors refusal_line line ascii
  refused_put d budget r name t u q p =
      put_within 19 131136 0 r _ t u (omega arith)
      (subst (λ bs. Put 19 0 bs t u r) (ap (λ bs. bs ++ ended n 10) q ∙ ap image_doors (sym (checked_refused v m budget n e d))) p)

  module _ (z : n ≡ 0) where
    dbr_passes : dbr_fits (length m.memory) m.registers.dbr ≡ true
    unfolding start_questions
    dbr_passes = (ask_yes _ _ _ (ask_yes _ _ _ (ask_yes _ _ _ (ask_yes _ _ _ (sym e ∙ z)).1).1).1).0

    pub dbr_length_within : m.registers.dbr.length ≤ 4096
    unfolding dbr_fits
    dbr_length_within = leb-true _ _ (and_left (leb m.registers.dbr.length 4096) _ dbr_passes)

    pub dbr_within_memory : m.registers.dbr.address + m.registers.dbr.length ≤ length m.memory
    unfolding dbr_fits
    dbr_within_memory = leb-true _ _ (and_right (leb m.registers.dbr.length 4096) _ dbr_passes)

    pub listing_put : (budget count b c d : ℕ) (name t₀ t₁ t₂ t₃ : List ℕ) → name ≡ ascii "doors" ++ ascii " " → count ≡ length (doors m) →
        Put 131072 0 (door_lines (doors m)) t₀ t₁ b → Put 32 b (faults_line v) t₁ t₂ c → Put 19 c (name ++ ended count 10) t₂ t₃ d →
        131136 ≤ length t₀ → Put 131136 0 (image_doors (checked v m budget)) t₀ t₃ d
    unfolding image_doors doors_listing doors_line line ascii
    listing_put budget count b c d name t₀ t₁ t₂ t₃ q counted p₁ p₂ p₃ h =
        let lines = door_lines (doors m) in
        let s₂ = both_put 131104 131072 32 0 b c lines (faults_line v) t₀ t₁ t₂ p₁ p₂ (omega arith) (omega arith) in
        let s₃ = both_put 131123 131104 19 0 c d (lines ++ faults_line v) (name ++ ended count 10) t₀ t₂ t₃ s₂ p₃ (omega arith) (omega arith) in
        put_within 131123 131136 0 d _ t₀ t₃ (omega arith)
        (subst (λ bs. Put 131123 0 bs t₀ t₃ d)
        (ap (λ bs. lines ++ faults_line v ++ (bs ++ ended count 10)) q
        ∙ ap (λ k. lines ++ faults_line v ++ (ascii "doors" ++ ascii " " ++ ended k 10)) counted
        ∙ ap image_doors (sym (checked_passed v m budget n e z))) s₃)
