-- Statements on images and listings: each is its parts one after another. Assumes nothing: these are definitions.
use Rattle.std.specs.Prelude.{◌≡◌, List, [], ◌++◌, ℕ, ◌+◌, length}
use Rattle.std.proofs.Math.Option.{some}
use Rattle.model.specs.Registers.{Delivery, Machine}
use Rattle.model.specs.Image.{Mark, mark_of, record_size, Loading, refused_image, whole_record_on, image_after}
use Rattle.model.specs.Run.{spent, run, after, trace, total}
use Rattle.model.specs.Listing.{step_lines, last_line, listing}

-- an image is its records one after another: a whole record is judged by its own bytes and by whether any follow, and the rest comes after it
abbrev pub ImageIsRecords : Type 0
ImageIsRecords =
    (k : Mark) (l : Loading) (one rest : List ℕ) → mark_of one ≡ some k → length one ≡ record_size l.rules k →
    image_after l (one ++ rest) ≡ whole_record_on k l (length rest) one (λ j. image_after j rest)

-- without a record more it is 42
abbrev pub ImageNeedsRn : Type 0
ImageNeedsRn = (l : Loading) → image_after l [] ≡ refused_image 42

-- a listing is its lines one after another: those of j steps, those of the steps from what they left, numbered on, and the last line
abbrev pub ListingIsLines : Type 0
ListingIsLines =
    (v : Delivery) (j k : ℕ) (m : Machine) → (run v j m).reply ≡ spent j →
    listing v (j + k) m
    ≡ step_lines 0 (trace v j m) ++ step_lines j (trace v k (after v j m)) ++ last_line (run v (j + k) m).reply (total v j m + total v k (after v j m))
