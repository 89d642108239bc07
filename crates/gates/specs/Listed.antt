-- 02, L10: the list of doors is neither short nor long, as long as the descriptors are those of the start. Assumes nothing: these are definitions.
use Rattle.std.specs.Prelude.{◌≡◌, true, List, [], ◌∷◌, ◌⊎◌, ◌≤◌, ◌<◌}
use Rattle.model.specs.Words.{Pointer}
use Rattle.model.specs.Registers.{Delivery, Machine}
use Rattle.model.specs.Questions.{pointer_in_range, start_questions}
use Rattle.model.specs.Reach.{SameDescriptors}
use Rattle.model.specs.Check.{passes, check}
use Rattle.model.specs.Doors.{Door, doors}
use Rattle.gates.specs.Falling.{ring_of, ThroughGate}

-- x is one of the list
unfoldable pub Among : {A : Type 0} → A → List A → Type 0
Among x [] = ⊥
Among x (y ∷ ys) = (x ≡ y) ⊎ Among x ys

-- THE LIST stands as long as no descriptor changes
abbrev pub SameDoors : Type 0
SameDoors = (m k : Machine) → SameDescriptors m k → doors m ≡ doors k

-- NOT SHORT: a step through a gate goes through a listed door, at a listed word, from a listed ring; TPR's is at least IPR's
pub record ThroughDoor (listed : List Door) (m k : Machine) (t : Pointer) : Type 0 where
  pub door : Door
  pub is_listed : Among door listed
  pub of_segment : t.segment ≡ door.segment
  pub at_word : t.word ≤ door.last
  pub from_ring : door.from ≤ ring_of m
  pub up_to_ring : t.ring ≤ door.to
  pub into_ring : ring_of k ≡ door.new

abbrev pub GatesAreListed : Type 0
GatesAreListed = (start m k : Machine) → SameDescriptors start m → (g : ThroughGate m k) → ThroughDoor (doors start) m k g.target

-- NOT LONG: each listed door has a ring that it leads down from
abbrev pub ListedLeadsDown : Type 0
ListedLeadsDown = (start : Machine) (x : Door) → Among x (doors start) → (x.from ≤ x.to) × (x.new < x.from)

-- and at each of its words, from each of its rings, CALL's check passes with its new ring; from whatever segment, though in the door's
-- own segment no such ring can fetch
abbrev pub ListedPasses : Type 0
ListedPasses =
    (v : Delivery) (start m : Machine) (x : Door) (p : Pointer) → SameDescriptors start m → Among x (doors start) → start_questions v m ≡ 0 →
    pointer_in_range p ≡ true → p.segment ≡ x.segment → p.word ≤ x.last → p.ring ≤ x.to → x.from ≤ ring_of m → ring_of m ≤ x.to →
    check v m p ≡ passes x.new
