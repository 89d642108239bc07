-- The reply of a run as the model's, and what holds of it. Assumes nothing: these are definitions.
use Rattle.std.specs.Prelude.{ℕ}
use Rattle.model.specs.Run as Run
use Rattle.words.specs.View.{as_pointer, PointerWithin}
use Rattle.state.specs.declared.reply.Reply.{Reply}
use Rattle.state.specs.declared.reply.Reply.TheVariants.{Refused, Spent, Halted, Fault}

abbrev pub as_reply : Reply → Run.Reply
as_reply (Refused n) = Run.Reply.refused n
as_reply (Spent c) = Run.Reply.spent c
as_reply (Halted c) = Run.Reply.halted c
as_reply (Fault n c t) = Run.Reply.fault n c (as_pointer t)

-- a fault's pointer fits the host's record
abbrev pub ReplyWithin : Reply → Type 0
ReplyWithin (Refused n) = Unit {0}
ReplyWithin (Spent c) = Unit {0}
ReplyWithin (Halted c) = Unit {0}
ReplyWithin (Fault n c t) = PointerWithin t

-- the completed steps; a refusal's are none
abbrev pub completed : Reply → ℕ
completed (Refused n) = 0
completed (Spent c) = c
completed (Halted c) = c
completed (Fault n c t) = c
