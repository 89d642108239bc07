-- Every machine of 03 is the view of just one, and questions 1 to 4 answer alike. Assumes nothing.
use mathlib.Core.Path.{◌≡◌, refl, ◌∙◌, ap, ap₂}
use mathlib.Core.Bool.{Bool, true, false, ◌&&◌, ◌||◌, not}
use mathlib.Core.List.{List, [], ◌∷◌, map}
use Prim.Native.Nat.{ℕ, ◌+◌}
use lib.Dec.{ltb, leb}
use lib.ListN.{length}
use Rattle.model.specs.Words.{Pointer}
use Rattle.model.specs.Registers.{Dbr, no_delivery}
use Rattle.model.specs.Questions.{all, memory_fits, pointer_in_range, delivery_in_range, registers_in_range, rings_at_least, dbr_fits, start_questions}
use Rattle.reference.specs.Machine as Machine03
use Rattle.reference.specs.View as View
use Rattle.reference.specs.Equal.{ViewsCover, ViewsOneToOne, StartEqual}
use Rattle.reference.proofs.TestLaws.{leb_is_not_ltb, not_not, and_is_not_or, ask_is_cond}

places_back : (ps : List Machine03.Place) → map View.place (map View.pointer ps) ≡ ps
places_back [] = refl
places_back (p ∷ ps) = ap (λ (qs : List Machine03.Place). p ∷ qs) (places_back ps)

pub views_cover : ViewsCover
views_cover m i =
    record {
      regs = record { a = m.regs.a; base = m.regs.base; bound = m.regs.bound; ipr = m.regs.ipr; prs = places_back m.regs.prs i };
      mem = m.mem;
    }

pointers_back : (ps : List Pointer) → map View.pointer (map View.place ps) ≡ ps
pointers_back [] = refl
pointers_back (p ∷ ps) = ap (λ (qs : List Pointer). p ∷ qs) (pointers_back ps)

pub views_one_to_one : ViewsOneToOne
views_one_to_one m i =
    record {
      registers = record { a = m.registers.a; dbr = m.registers.dbr; ipr = m.registers.ipr; prs = pointers_back m.registers.prs i };
      memory = m.memory;
    }

pointers_in_range : (ps : List Pointer) → all pointer_in_range ps ≡ Machine03.places_good (map View.place ps)
unfolding all pointer_in_range Machine03.place_good Machine03.places_good
pointers_in_range [] = refl
pointers_in_range (p ∷ ps) = ap (λ z. pointer_in_range p && z) (pointers_in_range ps)

pub rings_not_below : (n : ℕ) (ps : List Pointer) → rings_at_least n ps ≡ Machine03.rings_from n (map View.place ps)
unfolding all rings_at_least Machine03.rings_from
rings_not_below n [] = refl
rings_not_below n (p ∷ ps) = ap (λ z. leb n p.ring && z) (rings_not_below n ps)

-- 2 of a delivery that is off
and_yes : (b : Bool) → (b && true) ≡ b
and_yes true = refl
and_yes false = refl

-- 4, and 34 of what DBR is to become
pub dbr_fits_view : (size : ℕ) (d : Dbr) → dbr_fits size d ≡ not (ltb 4096 d.length || ltb size (d.address + d.length))
unfolding dbr_fits
dbr_fits_view size d =
    and_is_not_or (ltb 4096 d.length) (ltb size (d.address + d.length)) (leb_is_not_ltb d.length 4096) (leb_is_not_ltb (d.address + d.length) size)

pub start_equal : StartEqual
unfolding start_questions memory_fits registers_in_range pointer_in_range delivery_in_range Machine03.start_refusal Machine03.place_good
start_equal m =
    let r = m.registers in
    let size = length m.memory in
    let good = Machine03.place_good (View.place r.ipr) && (Machine03.places_good (map View.place r.prs) && leb r.dbr.address 16777215) in
    let rings = Machine03.rings_from r.ipr.ring (map View.place r.prs) in
    ask_is_cond (memory_fits size) (ltb 16777216 size) 1 (leb_is_not_ltb size 16777216)
    (ask_is_cond (registers_in_range no_delivery r) (not good) 2
    (ap₂ (λ z y. pointer_in_range r.ipr && (z && y)) (pointers_in_range r.prs) (and_yes (leb r.dbr.address 16777215)) ∙ not_not good)
    (ask_is_cond (rings_at_least r.ipr.ring r.prs) (not rings) 3 (rings_not_below r.ipr.ring r.prs ∙ not_not rings)
    (ask_is_cond (dbr_fits size r.dbr) (ltb 4096 r.dbr.length || ltb size (r.dbr.address + r.dbr.length)) 4 (dbr_fits_view size r.dbr) refl)))
