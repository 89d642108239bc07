-- Statements on a step, one that delivers a fault too: what a completed step leaves passes 1 to 4 again, in 64-bit words. Assumes nothing: these are definitions.
use Rattle.std.specs.Prelude.{◌≡◌, Bool, true, ◌⊎◌, ℕ, ◌^◌, ltb, length}
use Rattle.model.specs.Registers.{Delivery, Machine}
use Rattle.model.specs.Questions.{all, start_questions}
use Rattle.model.specs.Program.{completes, halts}
use Rattle.model.specs.Deliver.{step_with}

unfoldable pub is_word : ℕ → Bool
is_word w = ltb w (2 ^ 64)

-- registers and memory that pass 1 to 4, eight PRs, and every word below 2^64
pub record Sound (v : Delivery) (m : Machine) : Type 0 where
  pub passes : start_questions v m ≡ 0
  pub eight_prs : length m.registers.prs ≡ 8
  pub a_is_word : is_word m.registers.a ≡ true
  pub memory_is_words : all is_word m.memory ≡ true

-- sound again, with as many words of memory
pub record Kept (v : Delivery) (m k : Machine) : Type 0 where
  pub sound : Sound v k
  pub size_kept : length k.memory ≡ length m.memory

abbrev pub StepKeepsSound : Type 0
StepKeepsSound =
    (v : Delivery) (m k : Machine) → Sound v m → (step_with v m ≡ completes k) ⊎ (step_with v m ≡ halts k) → Kept v m k

-- 1 to 4 alone pass again whatever the words are
abbrev pub StepKeepsPassing : Type 0
StepKeepsPassing =
    (v : Delivery) (m k : Machine) → start_questions v m ≡ 0 → (step_with v m ≡ completes k) ⊎ (step_with v m ≡ halts k) → start_questions v k ≡ 0
