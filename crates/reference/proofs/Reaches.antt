-- The same words are observable, writable and descriptor words. Assumes nothing.
use mathlib.Core.Path.{◌≡◌, refl, ap₂}
use mathlib.Core.Bool.{◌&&◌, ◌||◌}
use Prim.Native.Nat.{ℕ, zero, suc}
use lib.Dec.{leb, eqb}
use Rattle.model.specs.Registers.{Machine}
use Rattle.model.specs.Program.{descriptor_of}
use Rattle.model.specs.Reach.{is_descriptor_word, covers, segment_passes, observable_through, writable_through, some_below, observable, writable}
use Rattle.reference.specs.Promise as Promise03
use Rattle.reference.specs.View as View
use Rattle.reference.specs.Equal.{ReachEqual}
use Rattle.reference.proofs.Uses.{words_opened, segment_answer}

observable_view : (n : ℕ) (m : Machine) (x s : ℕ) →
    some_below s (observable_through n m x) ≡ Promise03.reachable_from s n (View.regs m.registers) m.memory x
unfolding words_opened some_below observable_through segment_passes covers Promise03.reachable_from Promise03.covered_by
observable_view n m x zero = refl
observable_view n m x (suc s) =
    let d = descriptor_of m s in
    ap₂ (λ k b. (eqb k 0 && (covers d x && ((d.read || d.execute) && leb n d.r2))) || b) (segment_answer m s) (observable_view n m x s)

writable_view : (n : ℕ) (m : Machine) (x s : ℕ) →
    some_below s (writable_through n m x) ≡ Promise03.writable_from s n (View.regs m.registers) m.memory x
unfolding words_opened some_below writable_through segment_passes covers Promise03.writable_from Promise03.covered_by
writable_view n m x zero = refl
writable_view n m x (suc s) =
    let d = descriptor_of m s in
    ap₂ (λ k b. (eqb k 0 && (covers d x && (d.write && leb n d.r1))) || b) (segment_answer m s) (writable_view n m x s)

pub reach_equal : ReachEqual
unfolding observable writable is_descriptor_word Promise03.reachable Promise03.writable Promise03.is_descriptor_word
reach_equal n m x = (observable_view n m x m.registers.dbr.length, writable_view n m x m.registers.dbr.length, refl)
