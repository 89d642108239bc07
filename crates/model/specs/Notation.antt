-- Words, memories and images written down for the proved cases. Assumes nothing: these are definitions.
use Rattle.std.specs.Prelude.{Bool, false, ◌||◌, cond, List, [], ◌∷◌, ◌++◌, ℕ, ◌+◌, ◌*◌, ◌^◌, eqb, set}
use Prim.Native.Char.{Char, code}
use Prim.Native.String.{String}
use Prim.Native.String as Text
use Rattle.model.specs.Words.{Pointer}
use Rattle.model.specs.Registers.{Registers, no_delivery}
use Rattle.model.specs.Opcodes.{Opcode, LDI}
use Rattle.model.specs.Write.{ME_record, ST_record, WD_record, RN_record}

unfoldable pub pointer : (ring segment word : ℕ) → Pointer
pointer r s w = record { ring = r; segment = s; word = w }

-- a descriptor word; `flags` holds the letters of R, W, E and V that are on
unfoldable pub has_letter : Char → String → Bool
has_letter c Text.[] = false
has_letter c (Text.◌∷◌ x s) = eqb (code c) (code x) || has_letter c s

unfoldable pub flag : Char → String → ℕ
flag c s = cond (has_letter c s) 1 0

unfoldable pub segment : (address length r1 r2 r3 : ℕ) → (flags : String) → (gate : ℕ) → ℕ
segment a l r1 r2 r3 s g =
    a + l * 2 ^ 24 + r1 * 2 ^ 40 + r2 * 2 ^ 43 + r3 * 2 ^ 46 + flag "R" s * 2 ^ 49 + flag "W" s * 2 ^ 50 + flag "E" s * 2 ^ 51 + flag "V" s * 2 ^ 52 + g * 2 ^ 53

-- instruction words: LDI with its literal, an opcode by IPR with an OFFSET, by a PR, and by a PR with I on; REG 5 in each
unfoldable pub literal : ℕ → ℕ
literal v = LDI.number * 2 ^ 24 + v * 2 ^ 32

unfoldable pub by_ipr : Opcode → (offset : ℕ) → ℕ
by_ipr o k = k + 5 * 2 ^ 21 + o.number * 2 ^ 24

unfoldable pub by_pr : Opcode → (prnum : ℕ) → ℕ
by_pr o k = k * 2 ^ 16 + 2 ^ 19 + 5 * 2 ^ 21 + o.number * 2 ^ 24

unfoldable pub indirect_by_pr : Opcode → (prnum : ℕ) → ℕ
indirect_by_pr o k = by_pr o k + 2 ^ 20

-- a pointer word with I on
unfoldable pub indirect_word : Pointer → ℕ
indirect_word p = p.word + p.segment * 2 ^ 16 + p.ring * 2 ^ 28 + 2 ^ 31

-- words stored at their addresses
unfoldable pub storing : List (ℕ × ℕ) → List ℕ → List ℕ
storing [] m = m
storing (x ∷ xs) m = storing xs (set m x.0 x.1)

-- RECORDS of an image
unfoldable pub WD_records : List (ℕ × ℕ) → List ℕ
WD_records [] = []
WD_records (x ∷ xs) = WD_record x.0 x.1 ++ WD_records xs

-- an image with that ST, and one without delivery
unfoldable pub image_with : (size : ℕ) → (start : List ℕ) → List (ℕ × ℕ) → (budget : ℕ) → List ℕ
image_with n st ws b = ME_record n ++ st ++ WD_records ws ++ RN_record b

unfoldable pub image_of : (size : ℕ) → Registers → List (ℕ × ℕ) → (budget : ℕ) → List ℕ
image_of n r ws b = image_with n (ST_record r no_delivery) ws b
