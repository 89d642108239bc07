-- 01, 'The questions, in order': runs under a budget, their replies, what stands after each step, and the stretch. Assumes nothing: these are definitions.
use Rattle.std.specs.Prelude.{cond, List, [], ◌∷◌, ℕ, zero, suc, ◌+◌, ltb}
use Rattle.model.specs.Words.{Pointer}
use Rattle.model.specs.Registers.{Delivery, Machine}
use Rattle.model.specs.Questions.{start_questions}
use Rattle.model.specs.Program.{Outcome, faults, completes, halts}
use Rattle.model.specs.Step.{step, pointer_words}
use Rattle.model.specs.Deliver.{step_with, is_delivered}

-- all that a run answers; the count is the number of completed steps, and a refusal's is 0
pub data Reply : Type 0 where
  refused : (number : ℕ) → Reply
  spent : (count : ℕ) → Reply
  halted : (count : ℕ) → Reply
  fault : (number count : ℕ) → Pointer → Reply

pub record Ran : Type 0 where
  pub reply : Reply
  pub machine : Machine

unfoldable pub ran : Reply → Machine → Ran
ran p m = record { reply = p; machine = m }

-- 1 to 4: a no refuses the call, and else it goes ahead
unfoldable pub unless_refused : {A : Type 0} → (answer : ℕ) → (refusal : (number : ℕ) → A) → A → A
unless_refused zero f x = x
unless_refused (suc n) f x = f (suc n)

-- A RUN: HLT is a completed step, a faulting step isn't
unfoldable pub run_on : (count : ℕ) → Machine → Outcome → (Machine → Ran) → Ran
run_on c m (faults n t) f = ran (fault n c t) m
run_on c m (halts k) f = ran (halted (suc c)) k
run_on c m (completes k) f = f k

unfoldable pub run_from : Delivery → (left count : ℕ) → Machine → Ran
run_from v zero c m = ran (spent c) m
run_from v (suc n) c m = run_on c m (step_with v m) (λ k. run_from v n (suc c) k)

unfoldable pub run : Delivery → (budget : ℕ) → Machine → Ran
run v b m = unless_refused (start_questions v m) (λ n. ran (refused n) m) (run_from v b 0 m)

-- what stands after step k is what the run with budget k leaves
unfoldable pub after : Delivery → (steps : ℕ) → Machine → Machine
after v k m = (run v k m).machine

-- A SINGLE STEP as a call; one that delivers its fault is completed
pub data StepReply : Type 0 where
  refused : (number : ℕ) → StepReply
  completed : StepReply
  halted : StepReply
  fault : (number : ℕ) → Pointer → StepReply

pub record Stepped : Type 0 where
  pub reply : StepReply
  pub machine : Machine

unfoldable pub stepped : StepReply → Machine → Stepped
stepped p m = record { reply = p; machine = m }

unfoldable pub stepped_to : Machine → Outcome → Stepped
stepped_to m (faults n t) = stepped (StepReply.fault n t) m
stepped_to m (halts k) = stepped StepReply.halted k
stepped_to m (completes k) = stepped completed k

unfoldable pub single_step : Delivery → Machine → Stepped
single_step v m = unless_refused (start_questions v m) (λ n. stepped (StepReply.refused n) m) (stepped_to m (step_with v m))

-- THE TRACE: of each completed step IPR after it, and how many pointer words it read (02, L2), before its fault if it delivers one
pub record Traced : Type 0 where
  pub ipr : Pointer
  pub pointers : ℕ

unfoldable pub traced : Machine → (pointers : ℕ) → Traced
traced k c = record { ipr = k.registers.ipr; pointers = c }

unfoldable pub trace_on : (pointers : ℕ) → Outcome → (Machine → List Traced) → List Traced
trace_on c (faults n t) f = []
trace_on c (halts k) f = traced k c ∷ []
trace_on c (completes k) f = traced k c ∷ f k

unfoldable pub trace_from : Delivery → (left : ℕ) → Machine → List Traced
trace_from v zero m = []
trace_from v (suc n) m = trace_on (pointer_words m) (step_with v m) (λ k. trace_from v n k)

unfoldable pub trace : Delivery → (budget : ℕ) → Machine → List Traced
trace v b m = unless_refused (start_questions v m) (λ n. []) (trace_from v b m)

-- a run's total is that of its completed steps
unfoldable pub total_of : List Traced → ℕ
total_of [] = 0
total_of (x ∷ xs) = x.pointers + total_of xs

unfoldable pub total : Delivery → (budget : ℕ) → Machine → ℕ
total v b m = total_of (trace v b m)

-- how many the step read at which a run faults; 0 where it ends otherwise
unfoldable pub fault_count_on : (count : ℕ) → Outcome → (Machine → ℕ) → ℕ
fault_count_on c (faults n t) f = c
fault_count_on c (halts k) f = 0
fault_count_on c (completes k) f = f k

unfoldable pub fault_count_from : Delivery → (left : ℕ) → Machine → ℕ
fault_count_from v zero m = 0
fault_count_from v (suc n) m = fault_count_on (pointer_words m) (step_with v m) (λ k. fault_count_from v n k)

unfoldable pub fault_count : Delivery → (budget : ℕ) → Machine → ℕ
fault_count v b m = unless_refused (start_questions v m) (λ n. 0) (fault_count_from v b m)

-- a single step has its own count, faulting or not
unfoldable pub single_count : Delivery → Machine → ℕ
single_count v m = unless_refused (start_questions v m) (λ n. 0) (pointer_words m)

-- THE STRETCH is a run. Its budget: the number of steps up to and with the first that ends below ring n, or before the first that
-- delivers a fault, whichever comes first (02, L4); the run's own where there is none
unfoldable pub stretch_on : (ring left : ℕ) → Outcome → (Machine → ℕ) → ℕ
stretch_on n b (faults c t) f = suc b
stretch_on n b (halts k) f = suc (cond (ltb k.registers.ipr.ring n) 0 b)
stretch_on n b (completes k) f = suc (cond (ltb k.registers.ipr.ring n) 0 (f k))

unfoldable pub stretch_from : Delivery → (ring left : ℕ) → Machine → ℕ
stretch_from v n zero m = 0
stretch_from v n (suc b) m =
    cond (is_delivered v m (step m)) 0 (stretch_on n b (step m) (λ k. stretch_from v n b k))

unfoldable pub stretch : Delivery → (ring budget : ℕ) → Machine → ℕ
stretch v n b m = unless_refused (start_questions v m) (λ _. b) (stretch_from v n b m)
