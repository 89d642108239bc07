-- The bench's call is what 03's contract says. Assumes nothing.
use mathlib.Core.Path.{refl, subst}
use mathlib.Core.Bool.{Bool, true, false, not, cond}
use mathlib.Core.List.{List}
use Prim.Native.Nat.{ℕ, zero, suc, ◌+◌, ◌*◌, ◌≤◌}
use native.Mathlib.Omega.{arith}
use lib.Dec.{ltb, eqb, eqb-suc-zero}
use lib.ListN.{length}
use Rattle.model.specs.Image.{Image, refused_image, loaded, stored_image}
use Rattle.formats.proofs.ConvertLaws.{rules_agree}
use Rattle.model.specs.Bench.{negated, call_refused, call_wrote, bench_on, bench}
use Rattle.reference.specs.Run as Run03
use Rattle.reference.specs.Entry as Entry03
use Rattle.reference.specs.View as View
use Rattle.reference.specs.Equal.{BenchEqual}
use Rattle.reference.proofs.TestLaws.{leb_is_not_ltb}
use Rattle.reference.proofs.Images.{image_equal}
use Rattle.reference.proofs.ImageLaws.{Judged, image_judged}
use Rattle.reference.proofs.Listings.{loaded_listing}

-- 03's contract, of an image it has read
unfoldable SaysOf : Run03.Image → Image → (out : List ℕ) → Type 0
SaysOf i x out =
    Entry03.BenchSays (cond (eqb i.refusal 0) (cond (ltb (length out) (64 * (i.budget + 1))) 45 0) i.refusal)
    (Run03.listing View.pointers i.budget (record { regs = i.regs; mem = i.mem })) (bench_on x out).answer out (bench_on x out).buffer

bench_says : (x : Image) (out : List ℕ) → Judged x → SaysOf (View.image x) x out
unfolding SaysOf Judged negated call_refused call_wrote bench_on View.image Run03.bad_image Entry03.BenchSays
bench_says (refused_image zero) out s = absurd (let z : 1 ≤ 0 = s in omega arith)
bench_says (refused_image (suc n)) out s = rw (eqb-suc-zero n) (refl, refl)
bench_says (loaded v m b) out s =
    rw (leb_is_not_ltb (64 * (b + 1)) (length out), loaded_listing v m b s) (by_test (ltb (length out) (64 * (b + 1))))
  where
    text : List ℕ
    text = Run03.listing View.pointers b (View.machine m)

    by_test : (t : Bool) →
        Entry03.BenchSays (cond t 45 0) text (cond (not t) (call_wrote text out) (call_refused 45 out)).answer out
        (cond (not t) (call_wrote text out) (call_refused 45 out)).buffer
    by_test true = (refl, refl)
    by_test false = (refl, refl)

pub bench_equal : BenchEqual
unfolding bench SaysOf Entry03.bench_refusal Entry03.listing_of
bench_equal bs out once =
    rw (rules_agree bs once)
    (subst (λ (i : Run03.Image). SaysOf i (stored_image bs) out) (image_equal bs) (bench_says (stored_image bs) out (image_judged bs)))
