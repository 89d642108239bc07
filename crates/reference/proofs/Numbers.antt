-- An image's numbers and registers are read alike. Assumes nothing.
use mathlib.Core.Path.{◌≡◌, refl}
use mathlib.Core.List.{List, [], ◌∷◌, map}
use Prim.Native.Nat.{ℕ, zero, suc, ◌+◌, ◌*◌}
use lib.ListN.{take, drop}
use Rattle.model.specs.Image.{big_endian, number_at, pointer_at, pointers_at, registers_at}
use Rattle.reference.specs.Run as Run03
use Rattle.reference.specs.View as View

big_endian_equal : (v : ℕ) (bs : List ℕ) → big_endian v bs ≡ Run03.big_from v bs
unfolding big_endian Run03.big_from
big_endian_equal v [] = refl
big_endian_equal v (b ∷ bs) = big_endian_equal (256 * v + b) bs

pub number_equal : (a n : ℕ) (bs : List ℕ) → number_at a n bs ≡ Run03.big a n bs
unfolding number_at Run03.big
number_equal a n bs = big_endian_equal 0 (take n (drop a bs))

pointer_at_view : (a : ℕ) (bs : List ℕ) → View.place (pointer_at a bs) ≡ Run03.place_in a bs
unfolding pointer_at Run03.place_in
pointer_at_view a bs i = record { ring = number_equal a 1 bs i; seg = number_equal (a + 1) 2 bs i; at = number_equal (a + 3) 2 bs i }

pointers_at_view : (n a : ℕ) (bs : List ℕ) → map View.place (pointers_at n a bs) ≡ Run03.places_in n a bs
unfolding pointers_at Run03.places_in
pointers_at_view zero a bs = refl
pointers_at_view (suc n) a bs = λ i. pointer_at_view a bs i ∷ pointers_at_view n (a + 5) bs i

pub registers_at_view : (bs : List ℕ) → View.regs (registers_at bs) ≡ Run03.regs_in bs
unfolding registers_at Run03.regs_in
registers_at_view bs i =
    record {
      a = number_equal 2 8 bs i;
      base = number_equal 10 4 bs i;
      bound = number_equal 14 2 bs i;
      ipr = pointer_at_view 16 bs i;
      prs = pointers_at_view 8 21 bs i;
    }
