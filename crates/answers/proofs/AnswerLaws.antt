-- Each reply as numbers, and back. Assumes nothing.
use mathlib.Core.Path.{◌≡◌, ◌∙◌, refl, subst, ap}
use Prim.Native.Nat.{ℕ, ◌≤◌}
use native.Mathlib.Omega.{arith}
use borrow.Author.Tests.{ne_eqb}
use Rattle.model.specs.Answers.{numbers, reply_numbers}
use Rattle.model.specs.Run as Run
use Rattle.words.specs.View.{PointerWithin}
use Rattle.words.specs.declared.pointer.Pointer.{Pointer}
use Rattle.state.specs.declared.Core.{Core}
use Rattle.state.specs.Reply.{as_reply, ReplyWithin, completed}
use Rattle.state.specs.declared.reply.Reply.{Reply}
use Rattle.answers.specs.Answer.{AnswerFits, AnswersWith, reply_in, Replies}
use Rattle.answers.specs.declared.Answered.{Answered}

-- A REPLY AS NUMBERS
abbrev nowhere : Pointer
nowhere = record { ring = 0; segment = record { 0 = 0 }; word = record { 0 = 0 } }

-- a default pointer, by its numbers
pub is_nowhere : (p : Pointer) → (p.ring ≡ 0) × ((p.segment.0 ≡ 0) × (p.word.0 ≡ 0)) → p ≡ nowhere
is_nowhere p e =
    ap (λ n. record { ring = n; segment = p.segment; word = p.word }) e.0
    ∙ (ap (λ n. record { ring = 0; segment = record { 0 = n }; word = p.word }) e.1.0
    ∙ ap (λ n. record { ring = 0; segment = record { 0 = 0 }; word = record { 0 = n } }) e.1.1)

nowhere_within : PointerWithin nowhere
nowhere_within = record { ring_within = omega arith; segment_within = omega arith; word_within = omega arith }

module _ (r : Reply) (c : Core) (p : Pointer) (k : ℕ) where
  pub refused_answered : (n : ℕ) → r ≡ Reply.Refused n → n ≤ 255 → p ≡ nowhere → AnswersWith r c k (record { kind = 0; core = c; number = n; pointer = p; count = 0; pointers = k })
  unfolding reply_numbers numbers
  refused_answered n e h f =
      rw (e, f) (record { numbers_same = refl; core_same = refl; pointers_same = refl; fits = record { kind_fits = omega arith; number_fits = h; count_fits = omega arith; pointer_fits = nowhere_within } })

  pub spent_answered : (n : ℕ) → r ≡ Reply.Spent n → n ≤ 4294967295 → p ≡ nowhere → AnswersWith r c k (record { kind = 1; core = c; number = 0; pointer = p; count = n; pointers = k })
  unfolding reply_numbers numbers
  spent_answered n e h f =
      rw (e, f) (record { numbers_same = refl; core_same = refl; pointers_same = refl; fits = record { kind_fits = omega arith; number_fits = omega arith; count_fits = h; pointer_fits = nowhere_within } })

  pub halted_answered : (n : ℕ) → r ≡ Reply.Halted n → n ≤ 4294967295 → p ≡ nowhere → AnswersWith r c k (record { kind = 2; core = c; number = 0; pointer = p; count = n; pointers = k })
  unfolding reply_numbers numbers
  halted_answered n e h f =
      rw (e, f) (record { numbers_same = refl; core_same = refl; pointers_same = refl; fits = record { kind_fits = omega arith; number_fits = omega arith; count_fits = h; pointer_fits = nowhere_within } })

pub fault_answered : (r : Reply) (c : Core) (k i n : ℕ) (t : Pointer) → ReplyWithin r → r ≡ Reply.Fault i n t → i ≤ 255 → n ≤ 4294967295 →
    AnswersWith r c k (record { kind = 3; core = c; number = i; pointer = t; count = n; pointers = k })
unfolding reply_numbers numbers
fault_answered r c k i n t w e h g =
    let within : PointerWithin t = subst ReplyWithin e w in
    rw e (record { numbers_same = refl; core_same = refl; pointers_same = refl; fits = record { kind_fits = omega arith; number_fits = h; count_fits = g; pointer_fits = within } })

-- NUMBERS AS A REPLY
pub reply_of_numbers : (r : Run.Reply) → reply_in (reply_numbers r) ≡ r
unfolding reply_in reply_numbers numbers
reply_of_numbers (Run.Reply.refused n) = refl
reply_of_numbers (Run.Reply.spent c) = refl
reply_of_numbers (Run.Reply.halted c) = refl
reply_of_numbers (Run.Reply.fault n c p) = refl

module _ (x : Answered) (k : ℕ) (e : k ≡ x.kind) where
  pub replies_refused : k ≡ 0 → Replies x (Reply.Refused x.number)
  unfolding reply_in
  replies_refused h = record { same = rw (← e, h); within = tt }

  pub replies_spent : k ≡ 1 → Replies x (Reply.Spent x.count)
  unfolding reply_in
  replies_spent h = record { same = rw (← e, h); within = tt }

  pub replies_halted : k ≡ 2 → Replies x (Reply.Halted x.count)
  unfolding reply_in
  replies_halted h = record { same = rw (← e, h); within = tt }

  pub replies_fault : (k ≡ 0 → ⊥) → (k ≡ 1 → ⊥) → (k ≡ 2 → ⊥) → AnswerFits x → Replies x (Reply.Fault x.number x.count x.pointer)
  unfolding reply_in
  replies_fault h i j f = record { same = rw (← e, ne_eqb k 0 h, ne_eqb k 1 i, ne_eqb k 2 j); within = f.pointer_fits }

-- HOW MANY STEPS it says
pub count_completed : (r : Reply) → (reply_numbers (as_reply r)).count ≡ completed r
unfolding reply_numbers numbers
count_completed (Reply.Refused n) = refl
count_completed (Reply.Spent c) = refl
count_completed (Reply.Halted c) = refl
count_completed (Reply.Fault n c t) = refl

pub ruleset replies = (refused_answered, spent_answered, halted_answered, fault_answered, replies_refused, replies_spent, replies_halted, replies_fault)
