-- Document 03's words, descriptors, registers and questions on segments: as it stands there. Assumes nothing: these are definitions.
use Rattle.std.specs.Prelude.{Bool, true, ◌&&◌, ◌||◌, not, cond, List, [], ◌∷◌, ℕ, ◌+◌, ◌/◌, ◌%◌, ◌^◌, ltb, leb, eqb, length, get_or}

unfoldable pub field : (at width word : ℕ) → ℕ
field a n w = w / 2 ^ a % 2 ^ n

unfoldable pub on : (at word : ℕ) → Bool
on a w = eqb (field a 1 w) 1

pub record Descriptor : Type 0 where
  pub start : ℕ
  pub long : ℕ
  pub r1 : ℕ
  pub r2 : ℕ
  pub r3 : ℕ
  pub reads : Bool
  pub writes : Bool
  pub executes : Bool
  pub valid : Bool
  pub gate : ℕ

unfoldable pub descriptor : (word : ℕ) → Descriptor
descriptor w =
    record {
      start = field 0 24 w;
      long = field 24 16 w;
      r1 = field 40 3 w;
      r2 = field 43 3 w;
      r3 = field 46 3 w;
      reads = on 49 w;
      writes = on 50 w;
      executes = on 51 w;
      valid = on 52 w;
      gate = field 53 11 w;
    }

-- a ring, a segment, a word number
pub record Place : Type 0 where
  pub ring : ℕ
  pub seg : ℕ
  pub at : ℕ

pub record Regs : Type 0 where
  pub a : ℕ
  pub base : ℕ
  pub bound : ℕ
  pub ipr : Place
  pub prs : List Place

abbrev pub no_place : Place
no_place = record { ring = 0; seg = 0; at = 0 }

unfoldable pub pr : Regs → ℕ → Place
pr r i = get_or r.prs i no_place

unfoldable pub descriptor_of : Regs → (mem : List ℕ) → (seg : ℕ) → Descriptor
descriptor_of r m s = descriptor (get_or m (r.base + s) 0)

-- 11 to 14 of a segment, and 15 of a word number
unfoldable pub segment_refusal : Regs → (mem : List ℕ) → (seg : ℕ) → ℕ
segment_refusal r m s =
    let d = descriptor_of r m s in
    cond (leb r.bound s) 11
    (cond (not d.valid) 12
    (cond (not (leb d.r1 d.r2 && leb d.r2 d.r3)) 13 (cond (ltb (length m) (d.start + d.long)) 14 0)))

unfoldable pub use_refusal : Regs → (mem : List ℕ) → Place → ℕ
use_refusal r m p =
    let k = segment_refusal r m p.seg in
    cond (not (eqb k 0)) k (cond (ltb p.at (descriptor_of r m p.seg).long) 0 15)

unfoldable pub absolute : Regs → (mem : List ℕ) → Place → ℕ
absolute r m p = (descriptor_of r m p.seg).start + p.at

unfoldable pub word_at : Regs → (mem : List ℕ) → Place → ℕ
word_at r m p = get_or m (absolute r m p) 0

-- 1 to 4, before a run or step
unfoldable pub place_good : Place → Bool
place_good p = leb p.ring 7 && (leb p.seg 4095 && leb p.at 65535)

unfoldable pub places_good : List Place → Bool
places_good [] = true
places_good (p ∷ ps) = place_good p && places_good ps

unfoldable pub rings_from : (least : ℕ) → List Place → Bool
rings_from n [] = true
rings_from n (p ∷ ps) = leb n p.ring && rings_from n ps

unfoldable pub start_refusal : Regs → (mem : List ℕ) → ℕ
start_refusal r m =
    cond (ltb 16777216 (length m)) 1
    (cond (not (place_good r.ipr && (places_good r.prs && leb r.base 16777215))) 2
    (cond (not (rings_from r.ipr.ring r.prs)) 3
    (cond (ltb 4096 r.bound || ltb (length m) (r.base + r.bound)) 4 0)))
