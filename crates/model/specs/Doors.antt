-- 02, L10: the doors that lead into a lower ring, by the descriptors of a start, and their list. Assumes nothing: these are definitions.
use Rattle.std.specs.Prelude.{Bool, ◌&&◌, cond, List, [], ◌∷◌, ◌++◌, ℕ, zero, suc, ◌-◌, min, ltb, eqb, length}
use Rattle.model.specs.Words.{Descriptor}
use Rattle.model.specs.Registers.{Delivery, Machine}
use Rattle.model.specs.Program.{descriptor_of}
use Rattle.model.specs.Reach.{segment_passes}
use Rattle.model.specs.Image.{Image, refused_image, loaded, image}
use Rattle.model.specs.Listing.{ascii, decimal, line, refusal_line}

-- rings FROM to TO come through the gates of a segment, its words 0 to LAST, into ring NEW
pub record Door : Type 0 where
  pub segment : ℕ
  pub last : ℕ
  pub from : ℕ
  pub to : ℕ
  pub new : ℕ

-- some ring is in the gate extension, R2+1 to R3
unfoldable pub has_extension : Descriptor → Bool
has_extension d = ltb d.r2 d.r3

-- E on, a word that is a gate, and a gate extension
unfoldable pub leads_down : Descriptor → Bool
leads_down d = d.execute && (ltb 0 d.gate && (ltb 0 d.length && has_extension d))

-- its descriptor passes 11 to 14, and leads down
unfoldable pub is_door : Machine → (segment : ℕ) → Bool
is_door m s = segment_passes m s && leads_down (descriptor_of m s)

-- gates are words 0 to GATE-1, as far as the segment has them
unfoldable pub door : Machine → (segment : ℕ) → Door
door m s =
    let d = descriptor_of m s in
    record { segment = s; last = min d.gate d.length - 1; from = suc d.r2; to = d.r3; new = d.r2 }

-- of so many segments from one on, in order
unfoldable pub doors_from : (count segment : ℕ) → Machine → List Door
doors_from zero s m = []
doors_from (suc n) s m = cond (is_door m s) (door m s ∷ doors_from n (suc s) m) (doors_from n (suc s) m)

unfoldable pub doors : Machine → List Door
doors m = doors_from m.registers.dbr.length 0 m

-- THE LIST: a line each
unfoldable pub door_line : Door → List ℕ
door_line x =
    line (ascii "door" ∷ decimal x.segment ∷ decimal x.last ∷ decimal x.from ∷ decimal x.to ∷ decimal x.new ∷ [])

unfoldable pub door_lines : List Door → List ℕ
door_lines [] = []
door_lines (x ∷ xs) = door_line x ++ door_lines xs

-- with the switch on, a fault leads into ring 0 (02, L4)
unfoldable pub faults_line : Delivery → List ℕ
faults_line v = cond (eqb v.switch 1) (line (ascii "faults" ∷ decimal v.save ∷ decimal v.handler ∷ [])) []

unfoldable pub doors_line : (count : ℕ) → List ℕ
doors_line n = line (ascii "doors" ∷ decimal n ∷ [])

unfoldable pub doors_listing : Delivery → Machine → List ℕ
doors_listing v m = door_lines (doors m) ++ faults_line v ++ doors_line (length (doors m))

-- THE PROGRAM'S TEXT, from the image's start: its budget isn't used
unfoldable pub image_doors : Image → List ℕ
image_doors (refused_image n) = refusal_line n
image_doors (loaded v m b) = doors_listing v m

unfoldable pub doors_text : (bytes : List ℕ) → List ℕ
doors_text bs = image_doors (image bs)
