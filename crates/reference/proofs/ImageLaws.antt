-- A refused image has a number of a question; a loaded one has passed 1 to 4, and a stored one has no delivery. Assumes nothing.
use mathlib.Core.Path.{◌≡◌, refl, sym, ◌∙◌, ap, subst}
use mathlib.Core.List.{List, [], ◌∷◌}
use mathlib.Core.Option.{Option, none, some}
use Prim.Native.Nat.{ℕ, zero, suc, ◌≤◌}
use native.Mathlib.Omega.{arith}
use lib.Dec.{leb}
use lib.ListN.{length}
use Rattle.model.specs.Registers.{no_delivery}
use Rattle.model.specs.Questions.{start_questions}
use Rattle.model.specs.Run.{unless_refused}
use Rattle.model.specs.Image.{Mark, ME, ST, WD, RN, mark_of, record_size, stored, delivery_at, Loading, nothing_loaded, machine_of, record_questions, with_word, with_record, Image, refused_image, loaded, checked, record_on, whole_record_on, marked_on, bytes_on, image_from, image_after, stored_image}
use Rattle.model.proofs.BranchLaws.{cond_holds}
use Rattle.reference.specs.Equal.{ImageOff}

-- the rules of stored images, whose ST has no delivery
abbrev pub Stored : Loading → Type 0
Stored l = (l.rules ≡ stored) × (l.delivery ≡ no_delivery)

pub stored_with : (k : Mark) (l : Loading) (bs : List ℕ) → Stored l → Stored (with_record k l bs)
unfolding with_record with_word delivery_at
stored_with ME l bs v = v
stored_with ST l bs v = (v.0, rw v.0 refl)
stored_with WD l bs v = v
stored_with RN l bs v = v

unfoldable pub Judged : Image → Type 0
Judged (refused_image n) = 1 ≤ n
Judged (loaded v m b) = (v ≡ no_delivery) × (start_questions no_delivery m ≡ 0)

unless_refused_judged : (k : ℕ) (x : Image) → (k ≡ 0 → Judged x) → Judged (unless_refused k refused_image x)
unfolding Judged unless_refused
unless_refused_judged zero x f = f refl
unless_refused_judged (suc k) x f = omega arith

record_on_judged : (k : Mark) (l : Loading) (bs : List ℕ) (f : Loading → Image) → Stored l → ((j : Loading) → Stored j → Judged (f j)) →
    Judged (record_on k l bs f)
unfolding Judged record_on checked
record_on_judged ME l bs f v h = h _ (stored_with ME l bs v)
record_on_judged ST l bs f v h = h _ (stored_with ST l bs v)
record_on_judged WD l bs f v h = h _ (stored_with WD l bs v)
record_on_judged RN l bs f v h =
    unless_refused_judged (start_questions l.delivery (machine_of l)) _ (λ e. (v.1, ap (λ u. start_questions u (machine_of l)) (sym v.1) ∙ e))

marked_on_judged : (k : Option Mark) (l : Loading) (bs : List ℕ) (f : Loading → List ℕ → Image) → Stored l → ((j : Loading) (rest : List ℕ) → Stored j → Judged (f j rest)) →
    Judged (marked_on k l bs f)
unfolding Judged marked_on whole_record_on
marked_on_judged none l bs f v h = omega arith
marked_on_judged (some k) l bs f v h =
    cond_holds Judged (leb (record_size l.rules k) (length bs)) (λ _. unless_refused_judged (record_questions k l _ bs) _ (λ _. record_on_judged k l bs _ v (λ j. h j _)))
    (λ _. omega arith)

image_from_judged : (n : ℕ) (l : Loading) (bs : List ℕ) → Stored l → Judged (image_from n l bs)
unfolding Judged image_from bytes_on
image_from_judged zero l bs v = omega arith
image_from_judged (suc n) l [] v = omega arith
image_from_judged (suc n) l (b ∷ bs) v = marked_on_judged (mark_of (b ∷ bs)) l (b ∷ bs) _ v (λ j rest w. image_from_judged n j rest w)

pub image_judged : (bs : List ℕ) → Judged (stored_image bs)
unfolding stored_image image_after
image_judged bs = image_from_judged (suc (length bs)) (nothing_loaded stored) bs (refl, refl)

pub image_off : ImageOff
unfolding Judged
image_off bs v m b e = (subst Judged e (image_judged bs)).0
