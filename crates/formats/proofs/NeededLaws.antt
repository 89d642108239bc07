-- No run of an image exceeds its needs: a listing has a line for each completed step, and the last. Assumes nothing.
use mathlib.Core.Path.{◌≡◌, refl, sym, ◌∙◌, ap, ap₂, subst}
use mathlib.Core.Bool.{Bool, true, false, cond}
use mathlib.Core.List.{List, [], ◌∷◌, ◌++◌}
use Prim.Native.Nat.{ℕ, zero, suc, ◌+◌, ◌*◌, ◌/◌, ◌%◌, ◌≤◌}
use native.Mathlib.Omega.{arith}
use lib.Dec.{ltb, eqb}
use lib.ListN.{length}
use borrow.Author.Tests.{ne_eqb}
use Rattle.model.specs.Registers.{Delivery, Machine}
use Rattle.model.specs.Run.{Reply, refused, spent, halted, fault, run, Traced, trace, total}
use Rattle.model.specs.Answers.{reply_numbers}
use Rattle.model.specs.Listing.{ascii, digits, decimal, line, step_line, step_lines, refusal_line, last_line, listing, image_listing, image_text}
use Rattle.model.specs.Needs.{Needs, needs_of, image_needs}
use Rattle.model.specs.Needed.{lines_in, NeedsEnough, TextWithin}
use Rattle.model.proofs.BranchLaws.{cond_holds}
use Rattle.model.proofs.CountLaws.{run_counts}
use Rattle.model.proofs.CountedLaws.{total_within}
use Rattle.formats.proofs.NeedsLaws.{needs_are_accepted}

-- LINES of two texts, one after the other
lines_append : (xs ys : List ℕ) → lines_in (xs ++ ys) ≡ lines_in xs + lines_in ys
unfolding lines_in
lines_append [] ys = omega arith
lines_append (x ∷ xs) ys = by_test (eqb x 10) (lines_append xs ys)
  where
    by_test : (b : Bool) → lines_in (xs ++ ys) ≡ lines_in xs + lines_in ys →
        cond b (suc (lines_in (xs ++ ys))) (lines_in (xs ++ ys)) ≡ cond b (suc (lines_in xs)) (lines_in xs) + lines_in ys
    by_test true e = omega arith
    by_test false e = e

-- a number has no newline
digits_lines : (n v : ℕ) (ds : List ℕ) → lines_in (digits n v ds) ≡ lines_in ds
unfolding digits lines_in
digits_lines zero v ds = refl
digits_lines (suc n) v ds =
    cond_holds (λ t. lines_in t ≡ lines_in ds) (ltb v 10) (λ _. rw (ne_eqb (48 + v) 10 (λ e. omega arith)) refl)
    (λ _. digits_lines n (v / 10) ((48 + v % 10) ∷ ds) ∙ rw (ne_eqb (48 + v % 10) 10 (λ e. omega arith)) refl)

decimal_lines : (v : ℕ) → lines_in (decimal v) ≡ 0
unfolding decimal
decimal_lines v = digits_lines 20 v [] ∙ (unfold lines_in in refl)

-- A LINE of such words is one
abbrev WithoutNewlines : List (List ℕ) → Type 0
WithoutNewlines [] = Unit {0}
WithoutNewlines (w ∷ ws) = (lines_in w ≡ 0) × WithoutNewlines ws

newline_is_one : lines_in (ascii "\n") ≡ 1
unfolding ascii lines_in
newline_is_one = refl

space_is_none : lines_in (ascii " ") ≡ 0
unfolding ascii lines_in
space_is_none = refl

line_is_one : (ws : List (List ℕ)) → WithoutNewlines ws → lines_in (line ws) ≡ 1
unfolding line
line_is_one [] h = newline_is_one
line_is_one (w ∷ []) h = lines_append w (ascii "\n") ∙ ap₂ ◌+◌ h.0 newline_is_one
line_is_one (w ∷ v ∷ ws) h =
    lines_append (w ++ ascii " ") (line (v ∷ ws)) ∙ ap₂ ◌+◌ (lines_append w (ascii " ") ∙ ap₂ ◌+◌ h.0 space_is_none) (line_is_one (v ∷ ws) h.1)

step_line_is_one : (n : ℕ) (x : Traced) → lines_in (step_line n x) ≡ 1
unfolding step_line
step_line_is_one n x =
    line_is_one _ (decimal_lines n, (decimal_lines x.ipr.ring, (decimal_lines x.ipr.segment, (decimal_lines x.ipr.word, (decimal_lines x.pointers, tt)))))

steps_have_one : (c : ℕ) (xs : List Traced) → lines_in (step_lines c xs) ≡ length xs
unfolding step_lines lines_in
steps_have_one c [] = refl
steps_have_one c (x ∷ xs) =
    lines_append (step_line (suc c) x) (step_lines (suc c) xs) ∙ ap₂ ◌+◌ (step_line_is_one (suc c) x) (steps_have_one (suc c) xs) ∙ omega arith

last_is_one : (p : Reply) (k : ℕ) → lines_in (last_line p k) ≡ 1
unfolding last_line refusal_line ascii lines_in
last_is_one (refused n) k = line_is_one _ (refl, (decimal_lines n, tt))
last_is_one (spent c) k = line_is_one _ (refl, (decimal_lines c, (decimal_lines k, tt)))
last_is_one (halted c) k = line_is_one _ (refl, (decimal_lines c, (decimal_lines k, tt)))
last_is_one (fault n c p) k =
    line_is_one _
    (refl, (decimal_lines n, (decimal_lines c, (decimal_lines p.ring, (decimal_lines p.segment, (decimal_lines p.word, (decimal_lines k, tt)))))))

-- A LISTING
listing_lines : (v : Delivery) (k : ℕ) (m : Machine) → lines_in (listing v k m) ≡ length (trace v k m) + 1
unfolding listing
listing_lines v k m =
    lines_append (step_lines 0 (trace v k m)) (last_line (run v k m).reply (total v k m))
    ∙ ap₂ ◌+◌ (steps_have_one 0 (trace v k m)) (last_is_one (run v k m).reply (total v k m))

module _ (v : Delivery) (m : Machine) (b k : ℕ) (h : k ≤ b) where
  lines_enough : lines_in (listing v k m) ≤ b + 1
  lines_enough = let c = run_counts v k m in let l = listing_lines v k m in let x = c.0 in let y = c.1 in omega arith

  pointers_enough : total v k m ≤ 64 * b
  pointers_enough = let c = (run_counts v k m).0 in let t = total_within v k m in omega arith

  steps_enough : (reply_numbers (run v k m).reply).count ≤ b
  steps_enough = let c = (run_counts v k m).0 in omega arith

pub needs_are_enough : NeedsEnough
unfolding needs_of
needs_are_enough bs v m b e k h =
    let n = needs_are_accepted bs v m b e in
    record {
      lines_within = subst (λ (x : Needs). lines_in (listing v k m) ≤ x.lines) (sym n) (lines_enough v m b k h);
      pointers_within = subst (λ (x : Needs). total v k m ≤ x.pointers) (sym n) (pointers_enough v m b k h);
      steps_within = subst (λ (x : Needs). (reply_numbers (run v k m).reply).count ≤ x.budget) (sym n) (steps_enough v m b k h);
      memory_same = (run_counts v k m).2 ∙ sym (ap (λ (x : Needs). x.memory) n);
    }

pub text_within : TextWithin
unfolding image_text image_listing
text_within bs v m b e =
    subst (λ i. lines_in (image_listing i) ≤ (image_needs bs).lines) (sym e) (needs_are_enough bs v m b e b (omega arith)).lines_within
