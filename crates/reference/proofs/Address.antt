-- The effective address is formed alike. Assumes nothing.
use mathlib.Core.Path.{◌≡◌, refl, sym, ◌∙◌, ap}
use mathlib.Core.Bool.{Bool, true, false, cond}
use Prim.Native.Nat.{ℕ, zero, suc, ◌+◌, ◌%◌, max}
use native.Mathlib.Omega.{arith}
use lib.Dec.{eqb, eqb-suc-zero}
use lib.ListN.{get_or-map}
use Rattle.model.specs.Words.{field, on, Descriptor, Pointer, pointer_in, indirect_in, instruction_in}
use Rattle.model.specs.Registers.{Registers, Machine, pr, zero_pointer, moved_by, with_ring_at_least}
use Rattle.model.specs.Questions.{read_questions}
use Rattle.model.specs.Program.{Program, execute, descriptor_of, word_at, use_answer}
use Rattle.model.specs.Step.{first_address, next_address, chain}
use Rattle.model.proofs.BranchLaws.{cond_rel}
use Rattle.reference.specs.Machine as Machine03
use Rattle.reference.specs.Step as Step03
use Rattle.reference.specs.View as View
use Rattle.reference.proofs.Uses.{words_opened, read_answer, or_fault_view}

pub pr_view : (r : Registers) (k : ℕ) → View.place (pr r k) ≡ Machine03.pr (View.regs r) k
unfolding pr Machine03.pr
pr_view r k = sym (get_or-map View.place r.prs k zero_pointer)

-- step 2
pub first_address_view : (w : ℕ) (r : Registers) → View.place (first_address (instruction_in w) r) ≡ Step03.first_address w (View.regs r)
unfolding words_opened first_address instruction_in moved_by with_ring_at_least Step03.first_address Step03.place
first_address_view w r =
    cond_rel (λ p x. View.place (moved_by (field 0 16 w) p) ≡ x) {b = on 19 w} refl
    (λ _. ap (λ (p : Machine03.Place). Step03.place (max r.ipr.ring p.ring) p.seg (p.at + field 0 16 w)) (pr_view r (field 16 3 w)))
    (λ _. refl)

-- step 3: 03 takes the pointer's WORDNO below 65,536, which a field of 16 bits is, and the three rings in another order
next_address_view : (t : Pointer) (d : Descriptor) (w : ℕ) →
    View.place (next_address t d w)
    ≡ Step03.place (max t.ring (max (Machine03.field 28 3 w) d.r1)) (Machine03.field 16 12 w) (Machine03.field 0 16 w)
unfolding words_opened next_address with_ring_at_least pointer_in Step03.place
next_address_view t d w i =
    let largest : max (max t.ring d.r1) (field 28 3 w) ≡ max t.ring (max (field 28 3 w) d.r1) = omega arith in
    let below : field 0 16 w ≡ field 0 16 w % 65536 = omega arith in
    record { ring = largest i; seg = field 16 12 w; at = below i }

-- where a chain lands, what is done there; else its fault
unfoldable pub landed : (Machine03.Place → Step03.Stepped) → Step03.Address → Step03.Stepped
landed f (Step03.bad n t) = Step03.fault n t
landed f (Step03.good t) = f t

landed_after : (f : Machine03.Place → Step03.Stepped) (k : ℕ) (t : Machine03.Place) (x : Step03.Stepped) (y : Step03.Address) →
    x ≡ landed f y → Step03.or_fault k t x ≡ landed f (cond (eqb k 0) y (Step03.bad k t))
unfolding landed Step03.or_fault
landed_after f zero t x y e = e
landed_after f (suc k) t x y e = rw (eqb-suc-zero k)

pub chain_view : (m : Machine) (f : Pointer → Program) (g : Machine03.Place → Step03.Stepped) →
    ((t : Pointer) → View.outcome (execute m (f t)) ≡ g (View.place t)) →
    (left : ℕ) (i : Bool) (t : Pointer) →
    View.outcome (execute m (chain left i t f)) ≡ landed g (Step03.through left i (View.machine m) (View.place t))
unfolding words_opened chain execute landed View.outcome Step03.through indirect_in
chain_view m f g h zero i t = cond_rel (λ p x. View.outcome (execute m p) ≡ landed g x) {b = i} refl (λ _. refl) (λ _. h t)
chain_view m f g h (suc left) true t =
    let d = descriptor_of m t.segment in
    let w = word_at m t in
    let next = next_address t d w in
    or_fault_view (use_answer m t (read_questions t)) t _
    ∙ ap (λ k. Step03.or_fault k (View.place t) (View.outcome (execute m (chain left (on 31 w) next f)))) (read_answer m t)
    ∙ landed_after g (Step03.pointer_refusal (View.machine m) (View.place t)) (View.place t) _ _
    (chain_view m f g h left (on 31 w) next
    ∙ ap (λ p. landed g (Step03.through left (on 31 w) (View.machine m) p)) (next_address_view t d w))
chain_view m f g h (suc left) false t = h t
