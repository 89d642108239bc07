-- Document 03's runs, images and listing: as it stands there, but for the counts of pointer words in the listing. Assumes nothing: these are definitions.
use Rattle.std.specs.Prelude.{Bool, true, false, ◌&&◌, ◌||◌, not, cond, List, [], ◌∷◌, ◌++◌, ℕ, zero, suc, ◌+◌, ◌*◌, ◌/◌, ◌%◌, ltb, leb, eqb, length, get_or, set, take, drop, replicate}
use Rattle.reference.specs.Machine.{Place, Regs, no_place, start_refusal}
use Rattle.reference.specs.Step.{Machine, Stepped, faulted, went, step, is_halt}

-- kinds: 0 refused, 1 spent, 2 halted, 3 fault
pub record Reply : Type 0 where
  pub kind : ℕ
  pub number : ℕ
  pub count : ℕ
  pub where_at : Place

pub record Ran : Type 0 where
  pub reply : Reply
  pub machine : Machine

unfoldable pub reply_of : (kind number count : ℕ) → Place → Reply
reply_of k n c p = record { kind = k; number = n; count = c; where_at = p }

unfoldable pub ran : Reply → Machine → Ran
ran r m = record { reply = r; machine = m }

unfoldable pub run_on : (count : ℕ) → (halt : Bool) → Machine → Stepped → (Machine → Ran) → Ran
run_on c h m (faulted f) g = ran (reply_of 3 f.number c f.where_at) m
run_on c h m (went k) g = cond h (ran (reply_of 2 0 (suc c) no_place) k) (g k)

unfoldable pub run_from : (left count : ℕ) → Machine → Ran
run_from zero c m = ran (reply_of 1 0 c no_place) m
run_from (suc n) c m = run_on c (is_halt m) m (step m) (λ k. run_from n (suc c) k)

unfoldable pub run : (budget : ℕ) → Machine → Ran
run b m =
    let k = start_refusal m.regs m.mem in
    cond (eqb k 0) (run_from b 0 m) (ran (reply_of 0 k 0 no_place) m)

-- IMAGES: marks of two bytes, numbers high byte first
unfoldable pub big_from : ℕ → List ℕ → ℕ
big_from v [] = v
big_from v (b ∷ bs) = big_from (256 * v + b) bs

unfoldable pub big : (at n : ℕ) → List ℕ → ℕ
big a n bs = big_from 0 (take n (drop a bs))

unfoldable pub mark_is : (a b : ℕ) → List ℕ → Bool
mark_is a b bs = eqb (get_or bs 0 0) a && eqb (get_or bs 1 0) b

-- how long a record is, 0 for an unknown mark
unfoldable pub record_long : List ℕ → ℕ
record_long bs =
    cond (mark_is 77 69 bs) 6 (cond (mark_is 83 84 bs) 61 (cond (mark_is 87 68 bs) 14 (cond (mark_is 82 78 bs) 6 0)))

unfoldable pub place_in : (at : ℕ) → List ℕ → Place
place_in a bs = record { ring = big a 1 bs; seg = big (a + 1) 2 bs; at = big (a + 3) 2 bs }

unfoldable pub places_in : (left at : ℕ) → List ℕ → List Place
places_in zero a bs = []
places_in (suc n) a bs = place_in a bs ∷ places_in n (a + 5) bs

unfoldable pub regs_in : List ℕ → Regs
regs_in bs =
    record { a = big 2 8 bs; base = big 10 4 bs; bound = big 14 2 bs; ipr = place_in 16 bs; prs = places_in 8 21 bs }

abbrev pub no_regs : Regs
no_regs = record { a = 0; base = 0; bound = 0; ipr = no_place; prs = [] }

pub record Image : Type 0 where
  pub refusal : ℕ
  pub has_me : Bool
  pub has_st : Bool
  pub regs : Regs
  pub mem : List ℕ
  pub budget : ℕ

unfoldable pub bad_image : (refusal : ℕ) → Image
bad_image n = record { refusal = n; has_me = false; has_st = false; regs = no_regs; mem = []; budget = 0 }

abbrev pub no_image : Image
no_image = record { refusal = 0; has_me = false; has_st = false; regs = no_regs; mem = []; budget = 0 }

-- a record's own questions: 41, 42, 43, 44
unfoldable pub record_refusal : Image → List ℕ → ℕ
record_refusal i bs =
    let l = record_long bs in
    let me = mark_is 77 69 bs in
    let st = mark_is 83 84 bs in
    let wd = mark_is 87 68 bs in
    let rn = mark_is 82 78 bs in
    cond (eqb l 0 || ltb (length bs) l) 41
    (cond ((cond i.has_me me (not me) || (st && i.has_st)) || (rn && (not i.has_st || ltb l (length bs)))) 42
    (cond (me && ltb 8192 (big 2 4 bs)) 43 (cond (wd && leb (length i.mem) (big 2 4 bs)) 44 0)))

unfoldable pub with_record : Image → List ℕ → Image
with_record i bs =
    cond (mark_is 77 69 bs) (record { refusal = 0; has_me = true; has_st = i.has_st; regs = i.regs; mem = replicate (big 2 4 bs) 0; budget = 0 })
    (cond (mark_is 83 84 bs) (record { refusal = 0; has_me = true; has_st = true; regs = regs_in bs; mem = i.mem; budget = 0 })
    (cond (mark_is 87 68 bs) (record { refusal = 0; has_me = true; has_st = i.has_st; regs = i.regs; mem = set i.mem (big 2 4 bs) (big 6 8 bs); budget = 0 })
    (record { refusal = 0; has_me = true; has_st = true; regs = i.regs; mem = i.mem; budget = big 2 4 bs })))

-- 1 to 4 once all records are read
unfoldable pub checked : Image → Image
checked i = cond (eqb (start_refusal i.regs i.mem) 0) i (bad_image (start_refusal i.regs i.mem))

unfoldable pub image_from : (fuel : ℕ) → Image → List ℕ → Image
image_from zero i bs = bad_image 42
image_from (suc n) i bs =
    let k = record_refusal i bs in
    let j = with_record i bs in
    let more = image_from n j (drop (record_long bs) bs) in
    cond (eqb (length bs) 0) (bad_image 42) (cond (not (eqb k 0)) (bad_image k) (cond (mark_is 82 78 bs) (checked j) more))

unfoldable pub image : List ℕ → Image
image bs = image_from (suc (length bs)) no_image bs

-- THE LISTING
unfoldable pub digits : (fuel value : ℕ) → List ℕ → List ℕ
digits zero v xs = xs
digits (suc k) v xs = let more = digits k (v / 10) ((48 + v % 10) ∷ xs) in cond (ltb v 10) ((48 + v) ∷ xs) more

unfoldable pub numeral : ℕ → List ℕ
numeral v = digits 20 v []

unfoldable pub place_text : Place → List ℕ
place_text p = numeral p.ring ++ (32 ∷ numeral p.seg) ++ (32 ∷ numeral p.at)

-- 02, L2: each line ends with a number more, how many pointer words the step read, and in the last line their total;
-- 03's machine doesn't count them, so `pointers` is handed in: how many a step from there reads
unfoldable pub counted : (pointers : ℕ) → List ℕ
counted k = (32 ∷ numeral k) ++ (10 ∷ [])

unfoldable pub line_of : (count : ℕ) → Place → (pointers : ℕ) → List ℕ
line_of c p k = numeral c ++ (32 ∷ place_text p) ++ counted k

unfoldable pub last_line : Reply → (total : ℕ) → List ℕ
last_line r k =
    cond (eqb r.kind 1) ((115 ∷ 112 ∷ 101 ∷ 110 ∷ 116 ∷ 32 ∷ []) ++ numeral r.count ++ counted k)
    (cond (eqb r.kind 2) ((104 ∷ 97 ∷ 108 ∷ 116 ∷ 101 ∷ 100 ∷ 32 ∷ []) ++ numeral r.count ++ counted k)
    ((102 ∷ 97 ∷ 117 ∷ 108 ∷ 116 ∷ 32 ∷ []) ++ numeral r.number ++ (32 ∷ numeral r.count) ++ (32 ∷ place_text r.where_at) ++ counted k))

unfoldable pub lines_from : (pointers : Machine → ℕ) → (left count : ℕ) → Machine → List ℕ
lines_from p zero c m = []
lines_from p (suc n) c m =
    line_of (suc c) (run (suc c) m).machine.regs.ipr (p (run c m).machine) ++ lines_from p n (suc c) m

unfoldable pub total_from : (pointers : Machine → ℕ) → (left count : ℕ) → Machine → ℕ
total_from p zero c m = 0
total_from p (suc n) c m = p (run c m).machine + total_from p n (suc c) m

unfoldable pub listing : (pointers : Machine → ℕ) → (budget : ℕ) → Machine → List ℕ
listing p b m = let n = (run b m).reply.count in lines_from p n 0 m ++ last_line (run b m).reply (total_from p n 0 m)
