-- Statement: an image so written loads as just what was written. Assumes nothing: these are definitions.
use Rattle.std.specs.Prelude.{◌≡◌, List, ℕ, ◌^◌, ◌≤◌, ◌<◌, length, get_or}
use Rattle.model.specs.Registers.{Delivery, Machine}
use Rattle.model.specs.Questions.{start_questions}
use Rattle.model.specs.Image.{loaded, image}
use Rattle.model.specs.Write.{written_image}

-- what an image can hold: memory as 43 allows it, numbers that their bytes hold, eight PRs; and 1 to 4 are answered yes
pub record Writable (v : Delivery) (m : Machine) (b : ℕ) : Type 0 where
  pub memory_allowed : length m.memory ≤ 8192
  pub words_fit : (x : ℕ) → get_or m.memory x 0 < 2 ^ 64
  pub a_fits : m.registers.a < 2 ^ 64
  pub eight_prs : length m.registers.prs ≡ 8
  pub passes : start_questions v m ≡ 0
  pub budget_fits : b < 2 ^ 32

abbrev pub WrittenLoads : Type 0
WrittenLoads = (v : Delivery) (m : Machine) (b : ℕ) → Writable v m b → image (written_image v m b) ≡ loaded v m b
