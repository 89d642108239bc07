-- 01, 'Images and the listing': the text of a run and of an image. Every line ends with a newline. Assumes nothing: these are definitions.
use Rattle.std.specs.Prelude.{cond, List, [], ◌∷◌, ◌++◌, ℕ, zero, suc, ◌+◌, ◌/◌, ◌%◌, ltb}
use Prim.Native.String.{String}
use Prim.Native.String as Text
use Prim.Native.Char.{code}
use Rattle.model.specs.Registers.{Delivery, Machine}
use Rattle.model.specs.Run.{Reply, refused, spent, halted, fault, run, Traced, trace, total}
use Rattle.model.specs.Check as Check
use Rattle.model.specs.Image.{Image, refused_image, loaded, image}

unfoldable pub ascii : String → List ℕ
ascii Text.[] = []
ascii (Text.◌∷◌ c s) = code c ∷ ascii s

-- a number in decimal; 20 digits hold every 64-bit number
unfoldable pub digits : (most value : ℕ) → (after : List ℕ) → List ℕ
digits zero v ds = ds
digits (suc n) v ds = let more = digits n (v / 10) ((48 + v % 10) ∷ ds) in cond (ltb v 10) ((48 + v) ∷ ds) more

unfoldable pub decimal : ℕ → List ℕ
decimal v = digits 20 v []

-- words with a space between, and a newline at the end
unfoldable pub line : List (List ℕ) → List ℕ
line [] = ascii "\n"
line (w ∷ []) = w ++ ascii "\n"
line (w ∷ v ∷ ws) = w ++ ascii " " ++ line (v ∷ ws)

-- a completed step's number, IPR after it, and how many pointer words it read (02, L2)
unfoldable pub step_line : (number : ℕ) → Traced → List ℕ
step_line n x = line (decimal n ∷ decimal x.ipr.ring ∷ decimal x.ipr.segment ∷ decimal x.ipr.word ∷ decimal x.pointers ∷ [])

unfoldable pub step_lines : (count : ℕ) → List Traced → List ℕ
step_lines c [] = []
step_lines c (x ∷ xs) = step_line (suc c) x ++ step_lines (suc c) xs

unfoldable pub refusal_line : (number : ℕ) → List ℕ
refusal_line n = line (ascii "refused" ∷ decimal n ∷ [])

-- with the total of the steps' pointer words
unfoldable pub last_line : Reply → (total : ℕ) → List ℕ
last_line (refused n) k = refusal_line n
last_line (spent c) k = line (ascii "spent" ∷ decimal c ∷ decimal k ∷ [])
last_line (halted c) k = line (ascii "halted" ∷ decimal c ∷ decimal k ∷ [])
last_line (fault n c p) k =
    line (ascii "fault" ∷ decimal n ∷ decimal c ∷ decimal p.ring ∷ decimal p.segment ∷ decimal p.word ∷ decimal k ∷ [])

-- what CALL's check says of a pointer (02, L5)
unfoldable pub check_line : Check.Check → List ℕ
check_line (Check.refused n) = refusal_line n
check_line (Check.fault n p) = line (ascii "fault" ∷ decimal n ∷ decimal p.ring ∷ decimal p.segment ∷ decimal p.word ∷ [])
check_line (Check.passes r) = line (ascii "passes" ∷ decimal r ∷ [])

unfoldable pub listing : Delivery → (budget : ℕ) → Machine → List ℕ
listing v b m = step_lines 0 (trace v b m) ++ last_line (run v b m).reply (total v b m)

-- the text of an image, for the laptop and the bench alike; a refused one prints only `refused NUMBER`
unfoldable pub image_listing : Image → List ℕ
image_listing (refused_image n) = refusal_line n
image_listing (loaded v m b) = listing v b m

unfoldable pub image_text : (bytes : List ℕ) → List ℕ
image_text bs = image_listing (image bs)
