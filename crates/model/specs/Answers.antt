-- 01, 'Where each language form belongs': the number and values of each case of an answer that code gives as an enum. Assumes nothing: these are definitions.
use Rattle.std.specs.Prelude.{ℕ}
use Rattle.model.specs.Words.{Pointer}
use Rattle.model.specs.Registers.{zero_pointer}
use Rattle.model.specs.Run.{Reply, StepReply}
use Rattle.model.specs.Check as Check

-- an answer as numbers; what 01 leaves free is 0, the pointer's ring, segment and word as well
pub record Numbers : Type 0 where
  pub kind : ℕ
  pub number : ℕ
  pub count : ℕ
  pub pointer : Pointer

unfoldable pub numbers : (kind number count : ℕ) → Pointer → Numbers
numbers k n c p = record { kind = k; number = n; count = c; pointer = p }

-- a run's reply
unfoldable pub reply_numbers : Reply → Numbers
reply_numbers (Reply.refused n) = numbers 0 n 0 zero_pointer
reply_numbers (Reply.spent c) = numbers 1 0 c zero_pointer
reply_numbers (Reply.halted c) = numbers 2 0 c zero_pointer
reply_numbers (Reply.fault n c p) = numbers 3 n c p

-- a single step's reply, with the kinds of a run of that one step
unfoldable pub step_numbers : StepReply → Numbers
step_numbers (StepReply.refused n) = numbers 0 n 0 zero_pointer
step_numbers StepReply.completed = numbers 1 0 1 zero_pointer
step_numbers StepReply.halted = numbers 2 0 1 zero_pointer
step_numbers (StepReply.fault n p) = numbers 3 n 0 p

-- CALL's check as a call of its own (02, L5), with a kind of its own for a pass
pub record CheckNumbers : Type 0 where
  pub kind : ℕ
  pub number : ℕ
  pub ring : ℕ
  pub pointer : Pointer

unfoldable pub check_numbers : Check.Check → CheckNumbers
check_numbers (Check.refused n) = record { kind = 0; number = n; ring = 0; pointer = zero_pointer }
check_numbers (Check.fault n p) = record { kind = 3; number = n; ring = 0; pointer = p }
check_numbers (Check.passes r) = record { kind = 4; number = 0; ring = r; pointer = zero_pointer }
