-- Eight numbers asked at once: as the bytes of one number, and joined bit by bit. Assumes nothing: these are definitions.
use Rattle.std.specs.Prelude.{◌≡◌, true, List, [], ◌∷◌, map, ℕ, ◌+◌, ◌*◌, leb}
use Rattle.std.specs.Int.Bits.{bit_or}
use Rattle.model.specs.Words.{Pointer}
use Rattle.model.specs.Questions.{all}

-- a byte each, the first the lowest
unfoldable pub packed : List ℕ → ℕ
packed [] = 0
packed (n ∷ ns) = packed ns * 256 + n

unfoldable pub packed_rings : List Pointer → ℕ
packed_rings ps = packed (map (λ p. p.ring) ps)

-- 1 and 8 as each of eight bytes
abbrev pub ones : ℕ
ones = 72340172838076673

abbrev pub eights : ℕ
eights = 578721382704613384

-- the bits of all
unfoldable pub joined : List ℕ → ℕ
joined [] = 0
joined (n ∷ ns) = bit_or n (joined ns)

unfoldable pub joined_segments : List Pointer → ℕ
joined_segments ps = joined (map (λ p. p.segment) ps)

-- the segments' bits; the words are in range as they are
pub record Joined (ps : List Pointer) (n : ℕ) : Type 0 where
  pub bits : n ≡ joined_segments ps
  pub words_within : all (λ p. leb p.word 65535) ps ≡ true
