-- A reply as numbers. Assumes nothing: these are definitions.
use Rattle.std.specs.Prelude.{◌≡◌, cond, ℕ, ◌≤◌, eqb}
use Rattle.model.specs.Answers.{Numbers, reply_numbers}
use Rattle.model.specs.Run as Run
use Rattle.words.specs.View.{as_pointer, PointerWithin}
use Rattle.state.specs.declared.Core.{Core}
use Rattle.state.specs.Reply.{as_reply, ReplyWithin}
use Rattle.state.specs.declared.reply.Reply.{Reply}
use Rattle.answers.specs.declared.Answered.{Answered}
use Rattle.answers.specs.declared.Kind.{Kind}

-- the numbers of kinds, as the model's answers have them
abbrev pub kind_number : Kind → ℕ
kind_number Kind.Refused = 0
kind_number Kind.Spent = 1
kind_number Kind.Halted = 2
kind_number Kind.Fault = 3

abbrev pub as_numbers : Answered → Numbers
as_numbers x = record { kind = x.kind; number = x.number; count = x.count; pointer = as_pointer x.pointer }

-- its numbers fit what a host gets
pub record AnswerFits (x : Answered) : Type 0 where
  pub kind_fits : x.kind ≤ 3
  pub number_fits : x.number ≤ 255
  pub count_fits : x.count ≤ 4294967295
  pub pointer_fits : PointerWithin x.pointer

pub record AnswersWith (r : Reply) (c : Core) (pointers : ℕ) (x : Answered) : Type 0 where
  pub numbers_same : as_numbers x ≡ reply_numbers (as_reply r)
  pub core_same : x.core ≡ c
  pub pointers_same : x.pointers ≡ pointers
  pub fits : AnswerFits x

-- the reply that numbers stand for
unfoldable pub reply_in : Numbers → Run.Reply
reply_in n =
    cond (eqb n.kind 0) (Run.Reply.refused n.number)
    (cond (eqb n.kind 1) (Run.Reply.spent n.count) (cond (eqb n.kind 2) (Run.Reply.halted n.count) (Run.Reply.fault n.number n.count n.pointer)))

pub record Replies (x : Answered) (r : Reply) : Type 0 where
  pub same : as_reply r ≡ reply_in (as_numbers x)
  pub within : ReplyWithin r
