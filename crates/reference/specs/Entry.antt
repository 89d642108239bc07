-- Document 03's bench and run over lent words: as it stands there, but for the counts handed to the listing (02, L2). Assumes nothing: these are definitions.
use Rattle.std.specs.Prelude.{◌≡◌, cond, List, [], ◌∷◌, ◌++◌, ℕ, zero, suc, ◌+◌, ◌*◌, ltb, eqb, length, get_or, drop, ℤ, pos, negsuc}
use Rattle.reference.specs.Machine.{Place, Regs}
use Rattle.reference.specs.Step.{Machine}
use Rattle.reference.specs.Run.{Reply, run, image, listing}

-- what `run_words` answers; 03 has it from its code
pub record Answer : Type 0 where
  pub kind : ℕ
  pub number : ℕ
  pub count : ℕ
  pub ring : ℕ
  pub seg : ℕ
  pub at : ℕ

-- the export: an image and a text buffer; the number negated, or the text's length
unfoldable pub listing_of : (pointers : Machine → ℕ) → List ℕ → List ℕ
listing_of p bs = listing p (image bs).budget (record { regs = (image bs).regs; mem = (image bs).mem })

unfoldable pub bench_refusal : (image : List ℕ) → (room : ℕ) → ℕ
bench_refusal bs k =
    cond (eqb (image bs).refusal 0) (cond (ltb k (64 * ((image bs).budget + 1))) 45 0) (image bs).refusal

unfoldable pub BenchSays : (refusal : ℕ) → (text : List ℕ) → ℤ → (out out_now : List ℕ) → Type 0
BenchSays zero t r o q = (r ≡ pos (length t)) × (q ≡ t ++ drop (length t) o)
BenchSays (suc n) t r o q = (r ≡ negsuc n) × (q ≡ o)

-- a run over lent registers (A, DBR ADDRESS and LENGTH, then ring, segment and word of IPR and PR0 to PR7: 30 words) and memory
unfoldable pub place_of : (at : ℕ) → List ℕ → Place
place_of i ws = record { ring = get_or ws i 0; seg = get_or ws (i + 1) 0; at = get_or ws (i + 2) 0 }

unfoldable pub places_of : (left at : ℕ) → List ℕ → List Place
places_of zero i ws = []
places_of (suc n) i ws = place_of i ws ∷ places_of n (i + 3) ws

unfoldable pub regs_of : List ℕ → Regs
regs_of ws =
    record { a = get_or ws 0 0; base = get_or ws 1 0; bound = get_or ws 2 0; ipr = place_of 3 ws; prs = places_of 8 6 ws }

unfoldable pub place_words : Place → List ℕ
place_words p = p.ring ∷ p.seg ∷ p.at ∷ []

unfoldable pub all_place_words : List Place → List ℕ
all_place_words [] = []
all_place_words (p ∷ ps) = place_words p ++ all_place_words ps

unfoldable pub regs_words : Regs → List ℕ
regs_words r = (r.a ∷ r.base ∷ r.bound ∷ []) ++ place_words r.ipr ++ all_place_words r.prs

unfoldable pub tells : Reply → Answer → Type 0
tells p r =
    (r.kind ≡ p.kind) × (r.number ≡ p.number) × (r.count ≡ p.count) × (r.ring ≡ p.where_at.ring) × (r.seg ≡ p.where_at.seg)
    × (r.at ≡ p.where_at.at)

pub record RunSays (b : ℕ) (ws mem : List ℕ) (r : Answer) (ws_now mem_now : List ℕ) : Type 0 where
  pub short : (length ws ≡ 30 → ⊥) → (r.kind ≡ 0) × (r.number ≡ 2) × (r.count ≡ 0) × (ws_now ≡ ws) × (mem_now ≡ mem)
  pub right :
      length ws ≡ 30 →
      tells (run b (record { regs = regs_of ws; mem = mem })).reply r
      × (ws_now ≡ regs_words (run b (record { regs = regs_of ws; mem = mem })).machine.regs)
      × (mem_now ≡ (run b (record { regs = regs_of ws; mem = mem })).machine.mem)
