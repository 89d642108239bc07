-- A run's reply as a line. Assumes nothing.
use mathlib.Core.Path.{◌≡◌, sym, ap, ◌∙◌, subst}
use mathlib.Core.List.{List, ◌++◌, append_assoc}
use Prim.Native.Nat.{ℕ, ◌+◌, ◌≤◌}
use native.Mathlib.Omega.{arith}
use lib.ListN.{length}
use Rattle.model.specs.Run as Run
use Rattle.model.specs.Listing.{ascii, line, step_line, last_line}
use Rattle.words.specs.View.{PointerWithin}
use Rattle.words.specs.declared.pointer.Pointer.{Pointer}
use Rattle.state.specs.Reply.{as_reply, ReplyWithin}
use Rattle.state.specs.declared.reply.Reply.{Reply}
use Rattle.state.specs.declared.reply.Reply.TheVariants.{Fault}
use Rattle.text.specs.Text.{placed}
use Rattle.text.proofs.TextLaws.{length_placed, next_after, put_after}
use Rattle.parts.specs.Spaced.{spaced_pointer}
use Rattle.parts.proofs.PartLaws.{ended}
use Rattle.lines.proofs.LineLaws.{next_after_step_line, step_line_put_in}

-- a name, a count and a total
module _ (a b c v k : ℕ) (name t u w : List ℕ) (q : b ≡ a + length (name ++ ended v 32)) (s : c ≡ b + length (ended k 10)) where
  counted_parts : (name ++ ended v 32) ++ ended k 10 ≡ name ++ (ended v 32 ++ ended k 10)
  counted_parts = append_assoc name (ended v 32) (ended k 10)

  pub next_after_counted : c ≡ a + length (name ++ (ended v 32 ++ ended k 10))
  next_after_counted = next_after a b c (name ++ ended v 32) (ended k 10) q s ∙ ap (λ bs. a + length bs) counted_parts

  pub counted_put : u ≡ placed a (name ++ ended v 32) t → w ≡ placed b (ended k 10) u → b ≤ a + 19 → c ≤ b + 21 → a + 40 ≤ length t
      → w ≡ placed a (name ++ (ended v 32 ++ ended k 10)) t
  counted_put p r l m h = put_after a b c (name ++ ended v 32) (ended k 10) t u w p q r s (omega arith) ∙ ap (λ bs. placed a bs t) counted_parts

pub ruleset counted_laws = (next_after_counted, counted_put)

-- a fault's line: its number, and after it the line of a step of that count, pointer and total
module _ (f n r s w k a b c d e g : ℕ) (name t₀ t₁ t₂ t₃ t₄ t₅ : List ℕ) (is_fault : name ≡ ascii "fault" ++ ascii " ")
    (p₁ : t₁ ≡ placed a name t₀) (q₁ : b ≡ a + length name)
    (p₂ : t₂ ≡ placed b (ended f 32) t₁) (q₂ : c ≡ b + length (ended f 32)) (l₂ : c ≤ b + 6)
    (p₃ : t₃ ≡ placed c (ended n 32) t₂) (q₃ : d ≡ c + length (ended n 32)) (l₃ : d ≤ c + 11)
    (p₄ : t₄ ≡ placed d (spaced_pointer r s w) t₃) (q₄ : e ≡ d + length (spaced_pointer r s w)) (l₄ : e ≤ d + 14)
    (p₅ : t₅ ≡ placed e (ended k 10) t₄) (q₅ : g ≡ e + length (ended k 10)) (l₅ : g ≤ e + 21) where
  abbrev after : List ℕ
  after = step_line n (record { ipr = record { ring = r; segment = s; word = w }; pointers = k })

  fault_line_parts : name ++ (ended f 32 ++ after) ≡ last_line (Run.Reply.fault f n (record { ring = r; segment = s; word = w })) k
  unfolding last_line step_line line ascii
  fault_line_parts = ap (λ bs. bs ++ (ended f 32 ++ after)) is_fault

  name_long : length name ≡ 6
  unfolding ascii
  name_long = ap length is_fault

  after_number : g ≡ c + length after
  after_number = next_after_step_line n r s w k c d e g q₃ q₄ q₅

  after_name : g ≡ b + length (ended f 32 ++ after)
  after_name = next_after b c g (ended f 32) after q₂ after_number

  pub next_after_fault_line : g ≡ a + length (last_line (Run.Reply.fault f n (record { ring = r; segment = s; word = w })) k)
  next_after_fault_line = next_after a b g name (ended f 32 ++ after) q₁ after_name ∙ ap (λ bs. a + length bs) fault_line_parts

  pub fault_line_put : a + 64 ≤ length t₀ → t₅ ≡ placed a (last_line (Run.Reply.fault f n (record { ring = r; segment = s; word = w })) k) t₀
  fault_line_put h =
      let l₁ : b ≤ a + 6 = omega (arith, name_long) in
      let z₁ : length t₁ ≡ length t₀ = ap length p₁ ∙ length_placed a name t₀ (omega arith) in
      let z₂ : length t₂ ≡ length t₁ = ap length p₂ ∙ length_placed b (ended f 32) t₁ (omega arith) in
      put_after a b g name (ended f 32 ++ after) t₀ t₁ t₅ p₁ q₁
      (put_after b c g (ended f 32) after t₁ t₂ t₅ p₂ q₂ (step_line_put_in n r s w k c d e g q₃ q₄ q₅ t₂ t₃ t₄ t₅ p₃ p₄ p₅ (omega arith)) after_number (omega arith))
      after_name (omega arith)
      ∙ ap (λ bs. placed a bs t₀) fault_line_parts

-- the reply's case
module _ (r k : Reply) (total a b : ℕ) (bs t u : List ℕ) (case : r ≡ k) (same : bs ≡ last_line (as_reply k) total) where
  reply_line : bs ≡ last_line (as_reply r) total
  reply_line = same ∙ ap (λ x. last_line (as_reply x) total) (sym case)

  pub next_after_last_line : b ≡ a + length bs → b ≡ a + length (last_line (as_reply r) total)
  next_after_last_line e = e ∙ ap (λ xs. a + length xs) reply_line

  pub last_line_put : u ≡ placed a bs t → u ≡ placed a (last_line (as_reply r) total) t
  last_line_put e = e ∙ ap (λ xs. placed a xs t) reply_line

pub fault_within : (r : Reply) (n c : ℕ) (p : Pointer) → r ≡ Fault n c p → ReplyWithin r → PointerWithin p
fault_within r n c p e h = subst ReplyWithin e h

pub ruleset last_line_laws = (next_after_last_line, last_line_put, fault_within)
