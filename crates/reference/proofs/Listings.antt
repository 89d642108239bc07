-- The text of a run and of an image is 03's. Assumes nothing.
use mathlib.Core.Path.{◌≡◌, refl, sym, ◌∙◌, ap, ap₂, subst}
use mathlib.Core.Bool.{cond}
use mathlib.Core.List.{List, [], ◌∷◌, ◌++◌, append_assoc}
use Prim.Native.Nat.{ℕ, zero, suc, ◌+◌, ◌/◌, ◌%◌}
use native.Mathlib.Omega.{arith}
use lib.Dec.{ltb}
use lib.ListN.{length}
use Rattle.model.specs.Words.{Pointer}
use Rattle.model.specs.Registers.{Delivery, no_delivery, Machine}
use Rattle.model.specs.Questions.{start_questions}
use Rattle.model.specs.Step.{pointer_words}
use Rattle.model.specs.Run.{spent, halted, fault, Ran, ran, run, Traced, trace, total_of, total}
use Rattle.model.specs.Image.{loaded, stored_image}
use Rattle.formats.proofs.ConvertLaws.{today_as_stored}
use Rattle.model.specs.Listing.{ascii, digits, decimal, line, step_line, step_lines, last_line, listing, image_listing, image_text}
use Rattle.model.specs.Answers.{numbers, reply_numbers}
use Rattle.model.specs.Ends.{Ends, by_refusal, by_fault, by_halt, by_budget}
use Rattle.model.proofs.EndsLaws.{run_ends}
use Rattle.model.proofs.CountLaws.{run_counts}
use Rattle.reference.specs.Machine as Machine03
use Rattle.reference.specs.Run as Run03
use Rattle.reference.specs.Entry as Entry03
use Rattle.reference.specs.View as View
use Rattle.reference.specs.Equal.{ListingEqual, TextEqual}
use Rattle.reference.proofs.Start.{views_one_to_one}
use Rattle.reference.proofs.Runs.{run_equal}
use Rattle.reference.proofs.Images.{image_equal}
use Rattle.reference.proofs.ImageLaws.{Judged, image_judged}
use Rattle.reference.proofs.TraceLaws.{Trails, trace_trails}

digits_equal : (n v : ℕ) (ds : List ℕ) → digits n v ds ≡ Run03.digits n v ds
unfolding digits Run03.digits
digits_equal zero v ds = refl
digits_equal (suc n) v ds = ap (λ (more : List ℕ). cond (ltb v 10) ((48 + v) ∷ ds) more) (digits_equal n (v / 10) ((48 + v % 10) ∷ ds))

decimal_equal : (v : ℕ) → decimal v ≡ Run03.numeral v
unfolding decimal Run03.numeral
decimal_equal v = digits_equal 20 v []

step_line_equal : (n : ℕ) (x : Traced) → step_line n x ≡ Run03.line_of n (View.place x.ipr) x.pointers
unfolding ascii line step_line Run03.line_of Run03.place_text Run03.counted
step_line_equal n x = simp (append_assoc, decimal_equal)

-- every reply but a refusal
last_spent : (c k : ℕ) → last_line (spent c) k ≡ Run03.last_line (View.reply (spent c)) k
unfolding ascii line last_line numbers reply_numbers Run03.last_line Run03.place_text Run03.counted
last_spent c k = simp (append_assoc, decimal_equal)

last_halted : (c k : ℕ) → last_line (halted c) k ≡ Run03.last_line (View.reply (halted c)) k
unfolding ascii line last_line numbers reply_numbers Run03.last_line Run03.place_text Run03.counted
last_halted c k = simp (append_assoc, decimal_equal)

fault_fields : (n c : ℕ) (p : Pointer) (k : ℕ) →
    line (decimal n ∷ decimal c ∷ decimal p.ring ∷ decimal p.segment ∷ decimal p.word ∷ decimal k ∷ [])
    ≡ Run03.numeral n ++ (32 ∷ Run03.numeral c) ++ (32 ∷ Run03.place_text (View.place p)) ++ Run03.counted k
unfolding ascii line Run03.place_text Run03.counted
fault_fields n c p k = simp (append_assoc, decimal_equal)

last_fault : (n c : ℕ) (p : Pointer) (k : ℕ) → last_line (fault n c p) k ≡ Run03.last_line (View.reply (fault n c p)) k
unfolding ascii line last_line numbers reply_numbers Run03.last_line Run03.place_text
last_fault n c p k = ap (λ (xs : List ℕ). 102 ∷ 97 ∷ 117 ∷ 108 ∷ 116 ∷ 32 ∷ xs) (fault_fields n c p k)

last_line_view : (b : ℕ) (m : Machine) (k : ℕ) → start_questions no_delivery m ≡ 0 → last_line (run no_delivery b m).reply k ≡ Run03.last_line (View.reply (run no_delivery b m).reply) k
unfolding ran
last_line_view b m k passes = by_ends (run_ends no_delivery b m)
  where
    by_ends : {x : Ran} → Ends no_delivery b m x → last_line x.reply k ≡ Run03.last_line (View.reply x.reply) k
    by_ends (by_refusal e) = absurd (omega arith)
    by_ends (by_fault {count = c} {number = n} {t = t} e s h f) = last_fault n c t k
    by_ends (by_halt {count = c} e s h f) = last_halted (suc c) k
    by_ends (by_budget e s) = last_spent b k

-- what the model counts is what 03's listing is handed
pointers_view : (m : Machine) (c : ℕ) → pointer_words (run no_delivery c m).machine ≡ View.pointers (Run03.run c (View.machine m)).machine
pointers_view m c =
    ap pointer_words (sym (views_one_to_one (run no_delivery c m).machine)) ∙ ap (λ (x : Run03.Ran). View.pointers x.machine) (run_equal c m)

step_lines_view : (m : Machine) (c : ℕ) (xs : List Traced) → Trails no_delivery m c xs → step_lines c xs ≡ Run03.lines_from View.pointers (length xs) c (View.machine m)
unfolding step_lines Run03.lines_from
step_lines_view m c [] h = refl
step_lines_view m c (x ∷ xs) h =
    ap₂ (λ (a b : List ℕ). a ++ b)
    (step_line_equal (suc c) x
    ∙ ap₂ (λ (p : Machine03.Place) (k : ℕ). Run03.line_of (suc c) p k)
    (ap View.place h.0 ∙ ap (λ (x : Run03.Ran). x.machine.regs.ipr) (run_equal (suc c) m)) (h.1 ∙ pointers_view m c))
    (step_lines_view m (suc c) xs h.3)

total_view : (m : Machine) (c : ℕ) (xs : List Traced) → Trails no_delivery m c xs → total_of xs ≡ Run03.total_from View.pointers (length xs) c (View.machine m)
unfolding total_of Run03.total_from
total_view m c [] h = refl
total_view m c (x ∷ xs) h = ap₂ ◌+◌ (h.1 ∙ pointers_view m c) (total_view m (suc c) xs h.3)

pub listing_equal : ListingEqual
unfolding listing total Run03.listing
listing_equal b m s =
    let reply : View.reply (run no_delivery b m).reply ≡ (Run03.run b (View.machine m)).reply = ap (λ (x : Run03.Ran). x.reply) (run_equal b m) in
    let steps : length (trace no_delivery b m) ≡ (Run03.run b (View.machine m)).reply.count = sym (run_counts no_delivery b m).1 ∙ ap (λ (r : Run03.Reply). r.count) reply in
    ap₂ (λ (a b : List ℕ). a ++ b)
    (step_lines_view m 0 (trace no_delivery b m) (trace_trails no_delivery b m) ∙ ap (λ k. Run03.lines_from View.pointers k 0 (View.machine m)) steps)
    (last_line_view b m _ s
    ∙ ap₂ Run03.last_line reply
    (total_view m 0 (trace no_delivery b m) (trace_trails no_delivery b m) ∙ ap (λ k. Run03.total_from View.pointers k 0 (View.machine m)) steps))

-- of what a stored image loads
pub loaded_listing : (v : Delivery) (m : Machine) (b : ℕ) → Judged (loaded v m b) → listing v b m ≡ Run03.listing View.pointers b (View.machine m)
unfolding Judged
loaded_listing v m b j = ap (λ u. listing u b m) j.0 ∙ listing_equal b m j.1

-- 03's text of an image is that of what the stored image loads
text_view : (bs : List ℕ) → Entry03.listing_of View.pointers bs
    ≡ Run03.listing View.pointers (View.image (stored_image bs)).budget (record { regs = (View.image (stored_image bs)).regs; mem = (View.image (stored_image bs)).mem })
unfolding Entry03.listing_of
text_view bs =
    ap (λ (i : Run03.Image). Run03.listing View.pointers i.budget (record { regs = i.regs; mem = i.mem })) (sym (image_equal bs))

pub text_equal : TextEqual
unfolding image_text image_listing View.image
text_equal bs v m b e =
    let same = today_as_stored bs v m b e in rw (text_view bs, same, e) (loaded_listing v m b (subst Judged same (image_judged bs)))
