-- Digits put from the last to the first: what is still to be put stands before what is there. Assumes nothing.
use mathlib.Core.Path.{◌≡◌, refl, sym, ap, ◌∙◌}
use mathlib.Core.List.{List, [], ◌∷◌}
use Prim.Native.Nat.{ℕ, ◌+◌, ◌-◌, ◌/◌, ◌%◌, ◌≤◌, ◌<◌}
use native.Mathlib.Omega.{arith}
use lib.ListN.{length, set}
use Rattle.model.specs.Listing.{decimal}
use Rattle.text.specs.Text.{placed}
use Rattle.text.proofs.TextLaws.{placed_byte, placed_last, length_placed, put_after}
use Rattle.text.proofs.DecimalLaws.{by_ten, decimal_digit, decimal_last, length_decimal_digit, length_decimal_tenth, decimal_not_empty, length_decimal_most}

module _ (v a i : ℕ) (t z : List ℕ) (small : v < 18446744073709551616) (ends : i ≡ a + length (decimal v)) where
  place_positive : 1 ≤ i
  place_positive = omega (arith, decimal_not_empty v)

  place_back : 10 ≤ v → i - 1 ≡ a + length (decimal (v / 10))
  place_back l = omega (arith, length_decimal_tenth v l small)

  digit_put : 10 ≤ v → i ≤ length t → placed a (decimal v) t ≡ z → placed a (decimal (v / 10)) (set t (i - 1) (48 + v % 10)) ≡ z
  digit_put l h e =
      let k : i - 1 ≡ a + length (decimal (v / 10)) = place_back l in
      let p : 1 ≤ i = place_positive in
      ap (λ j. placed a (decimal (v / 10)) (set t j (48 + v % 10))) k
      ∙ placed_last a (decimal (v / 10)) (48 + v % 10) t (omega arith)
      ∙ ap (λ bs. placed a bs t) (sym (decimal_last v l small)) ∙ e

  last_digit_put : v < 10 → i ≤ length t → placed a (decimal v) t ≡ z → set t (i - 1) (48 + v) ≡ z
  last_digit_put l h e =
      let k : i - 1 ≡ a = omega (arith, length_decimal_digit v l) in
      let p : 1 ≤ i = place_positive in
      ap (λ j. set t j (48 + v)) k ∙ sym (placed_byte a (48 + v) t (omega arith)) ∙ ap (λ bs. placed a bs t) (sym (decimal_digit v l)) ∙ e

-- THE LOOP: the digits of what is left, put at `a`, give the text that is wanted; below the first digit's place that text is there
pub record DigitsLeft (v a i : ℕ) (t z : List ℕ) : Type 0 where
  pub small : v < 18446744073709551616
  pub more : a < i → (i ≡ a + length (decimal v)) × (placed a (decimal v) t ≡ z)
  pub none : i ≤ a → t ≡ z

pub all_left : (v a i : ℕ) (t : List ℕ) → v < 18446744073709551616 → i ≡ a + length (decimal v) → DigitsLeft v a i t (placed a (decimal v) t)
all_left v a i t h ends =
    record { small = h; more = λ l. (ends, refl); none = λ l. let k = decimal_not_empty v in absurd (omega arith) }

pub one_less : (v a i : ℕ) (t z : List ℕ) → DigitsLeft v a i t z → a < i → i ≤ length t → DigitsLeft (v / 10) a (i - 1) (set t (i - 1) (48 + v % 10)) z
one_less v a i t z d l h =
    let small : v < 18446744073709551616 = d.small in
    let ends : i ≡ a + length (decimal v) = (d.more l).0 in
    by_ten v
    (λ one.
    let y : v % 10 ≡ v = omega arith in
    let k : 1 ≡ length (decimal v) = length_decimal_digit v one in
    record {
      small = omega arith;
      more = λ m. absurd (omega arith);
      none = λ m. ap (λ x. set t (i - 1) (48 + x)) y ∙ last_digit_put v a i t z small ends one h (d.more l).1;
    })
    (λ ten.
    let k : i - 1 ≡ a + length (decimal (v / 10)) = place_back v a i t z small ends ten in
    let n : 1 ≤ length (decimal (v / 10)) = decimal_not_empty (v / 10) in
    record {
      small = omega arith;
      more = λ m. (k, digit_put v a i t z small ends ten h (d.more l).1);
      none = λ m. absurd (omega arith);
    })

-- the last digit put after the others, of a number of at most 20
module _ (v a b : ℕ) (t u : List ℕ) (least : 4294967296 ≤ v) (small : v < 18446744073709551616) (q : b ≡ a + length (decimal (v / 10))) where
  pub next_after_last : b + 1 ≡ a + length (decimal v)
  next_after_last = omega (arith, length_decimal_tenth v (omega arith) small)

  pub next_within : b + 1 ≤ a + 20
  next_within = omega (arith, next_after_last, length_decimal_most 19 v (omega arith))

  pub last_within : a + 20 ≤ length t → b < length t
  last_within h = omega (arith, next_within)

  pub last_after_put : u ≡ placed a (decimal (v / 10)) t → a + 20 ≤ length t → set u b (48 + v % 10) ≡ placed a (decimal v) t
  last_after_put p h =
      let y : ℕ = 48 + v % 10 in
      let e : length u ≡ length t = ap length p ∙ length_placed a (decimal (v / 10)) t (omega (arith, next_within)) in
      put_after a b (b + 1) (decimal (v / 10)) (y ∷ []) t u (set u b y) p q (sym (placed_byte b y u (omega (arith, next_within)))) refl (omega (arith, next_within))
      ∙ ap (λ bs. placed a bs t) (sym (decimal_last v (omega arith) small))

pub ruleset last_digit_laws = (next_after_last, next_within, last_within, last_after_put)
