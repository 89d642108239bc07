-- 02, L5: may I call there? CALL's check as a call of its own, of any pointer. Assumes nothing: these are definitions.
use Rattle.std.specs.Prelude.{ℕ, zero, suc, length}
use Rattle.model.specs.Words.{Pointer}
use Rattle.model.specs.Registers.{Delivery, Machine, with_ring_at_least}
use Rattle.model.specs.Questions.{ask, memory_fits, pointer_in_range, start_questions, new_ring, call_questions}
use Rattle.model.specs.Program.{descriptor_of, use_answer}
use Rattle.model.specs.Run.{unless_refused}

pub data Check : Type 0 where
  refused : (number : ℕ) → Check
  -- the pointer's ring is raised
  fault : (number : ℕ) → Pointer → Check
  passes : (ring : ℕ) → Check

-- 11 to 15, then 26 to 30, with IPR as the instruction's place
unfoldable pub answered : (answer : ℕ) → Pointer → (ring : ℕ) → Check
answered zero t n = passes n
answered (suc k) t n = fault (suc k) t

unfoldable pub checked : Machine → Pointer → Check
checked m t = answered (use_answer m t (call_questions m.registers.ipr t)) t (new_ring t (descriptor_of m t.segment))

-- 1; 2, of the pointer as well; 3; 4
unfoldable pub check_questions : Delivery → Machine → Pointer → ℕ
check_questions v m p = ask (memory_fits (length m.memory)) 1 (ask (pointer_in_range p) 2 (start_questions v m))

-- then the pointer's ring is raised to at least IPR's, as a program's would be
unfoldable pub check : Delivery → Machine → Pointer → Check
check v m p = unless_refused (check_questions v m p) refused (checked m (with_ring_at_least m.registers.ipr.ring p))
