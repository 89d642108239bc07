-- A row from its bytes, and the text that the program prints. Assumes nothing.
use mathlib.Core.Path.{◌≡◌, refl, sym, ap, ◌∙◌, subst}
use mathlib.Core.Bool.{cond}
use mathlib.Core.List.{List, [], ◌∷◌}
use Prim.Native.Nat.{ℕ, ◌/◌, ◌%◌, ◌≤◌}
use native.Mathlib.Omega.{arith}
use lib.ListN.{length, take}
use lib.Seq.{length-take-le}
use borrow.Author.Tests.{eq-eqb, ne_eqb}
use Rattle.model.specs.Registers.{machine}
use Rattle.model.specs.Questions.{start_questions}
use Rattle.model.specs.Run.{refused}
use Rattle.model.specs.Image.{number_at, checked}
use Rattle.model.specs.Listing.{refusal_line, last_line}
use Rattle.model.specs.Write.{written_image}
use Rattle.model.specs.Brackets.{Row, Bracketed, set_brackets, bracketed_text, image_bracketed, row_at}
use Rattle.formats.proofs.ImageLaws.{checked_refused, checked_passed}
use Rattle.questions.specs.Numbers.{start_number}
use Rattle.questions.specs.declared.start.StartError.{StartError}
use Rattle.questions.specs.declared.start.StartError.TheVariants as StartError
use Rattle.host.specs.Record.{machine_of, delivery_of}
use Rattle.host.specs.declared.record.Registers.{Registers}
use Rattle.tables.specs.View.{base}
use Rattle.brackets.specs.Printed.{Printed}

-- THE FRONT of what is lent is no longer than all of it
pub front_at_most : (n : ℕ) (xs : List ℕ) {k : ℕ} → n ≤ length xs → length xs ≡ k → length (take n xs) ≤ k
front_at_most n xs h e = omega (arith, length-take-le n xs h)

-- A REFUSAL is a listing's last line
pub refusal_is_last_line : (n : ℕ) → last_line (refused n) 0 ≡ refusal_line n
unfolding last_line
refusal_is_last_line n = refl

pub printed_as : {s z : List ℕ} (t u : List ℕ) (n : ℕ) → s ≡ z → Printed s t u n → Printed z t u n
printed_as t u n e p = subst (λ x. Printed x t u n) e p

pub start_not_0 : (e : StartError) → start_number e ≡ 0 → ⊥
start_not_0 StartError.MemoryTooLarge z = omega (arith, z)
start_not_0 StartError.OutOfRange z = omega (arith, z)
start_not_0 StartError.RingsBelow z = omega (arith, z)
start_not_0 StartError.BaseOutsideMemory z = omega (arith, z)

-- THE ANSWER: of 1 to 4, of the table, or the image
module _ (r : Registers) (m : List ℕ) (b : ℕ) (rows : List Row) (n : ℕ) (e : n ≡ start_questions (delivery_of r) (machine_of r m)) where
  abbrev answer : List ℕ
  answer = image_bracketed rows (checked (delivery_of r) (machine_of r m) b)

  pub refused_by_start : (n ≡ 0 → ⊥) → (t u : List ℕ) (k : ℕ) → Printed (refusal_line n) t u k → Printed answer t u k
  unfolding image_bracketed
  refused_by_start d t u k p =
      printed_as t u k (ap (image_bracketed rows) (sym (checked_refused (delivery_of r) (machine_of r m) b n e d))) p

  module _ (z : n ≡ 0) (a : ℕ) (q : a ≡ (set_brackets m (base r.dbr.address r.dbr.length) rows).answer) where
    abbrev set_now : Bracketed
    set_now = set_brackets m (base r.dbr.address r.dbr.length) rows

    abbrev written : List ℕ
    written = written_image (delivery_of r) (machine_of r set_now.memory) b

    abbrev refusal : List ℕ
    refusal = refusal_line set_now.answer

    asked : bracketed_text (delivery_of r) (machine_of r m).registers b set_now ≡ answer
    unfolding image_bracketed
    asked = ap (image_bracketed rows) (sym (checked_passed (delivery_of r) (machine_of r m) b n e z))

    pub refused_by_table : (a ≡ 0 → ⊥) → (t u : List ℕ) (k : ℕ) → Printed (refusal_line a) t u k → Printed answer t u k
    unfolding bracketed_text machine
    refused_by_table d t u k p =
        printed_as t u k (ap refusal_line q ∙ sym (ap (λ x. cond x written refusal) (ne_eqb set_now.answer 0 (λ h. d (q ∙ h)))) ∙ asked) p

    pub image_set : a ≡ 0 → (m_now : List ℕ) → m_now ≡ (set_brackets m (base r.dbr.address r.dbr.length) rows).memory → (t u : List ℕ) (k : ℕ) →
        Printed (written_image (delivery_of r) (machine_of r m_now) b) t u k → Printed answer t u k
    unfolding bracketed_text machine
    image_set y m_now s t u k p =
        printed_as t u k
        (ap (λ x. written_image (delivery_of r) (machine_of r x) b) s ∙ sym (ap (λ x. cond x written refusal) (eq-eqb set_now.answer 0 (sym q ∙ y))) ∙ asked) p

pub ruleset answer_laws = (refused_by_start, refused_by_table, image_set)
