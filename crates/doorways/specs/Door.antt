-- A door by its segment's descriptor alone: the model's reads no more of a machine, once 11 lets the segment by. Assumes nothing: these are definitions.
use Rattle.std.specs.Prelude.{Bool, ◌&&◌, cond, List, [], ◌∷◌, ℕ, suc, ◌-◌, min, eqb}
use Rattle.model.specs.Words.{Descriptor, descriptor_in}
use Rattle.model.specs.Doors.{Door, leads_down}
use Rattle.segments.specs.Translation.{descriptor_answer}

-- 12 to 14 of its word in a memory of so many words, and it leads down
unfoldable pub is_door_by : (size word : ℕ) → Bool
is_door_by n w = eqb (descriptor_answer n w) 0 && leads_down (descriptor_in w)

unfoldable pub door_by : (segment : ℕ) → Descriptor → Door
door_by s d = record { segment = s; last = min d.gate d.length - 1; from = suc d.r2; to = d.r3; new = d.r2 }

-- one, or none
unfoldable pub doors_by : (size segment word : ℕ) → List Door
doors_by n s w = cond (is_door_by n w) (door_by s (descriptor_in w) ∷ []) []
