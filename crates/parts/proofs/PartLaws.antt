-- What a line is made of, each with the byte that ends it. Assumes nothing.
use mathlib.Core.Path.{◌≡◌, refl, sym, ap, ◌∙◌}
use mathlib.Core.List.{List, [], ◌∷◌, ◌++◌}
use Prim.Native.Nat.{ℕ, ◌+◌, ◌/◌, ◌%◌, ◌≤◌, ◌<◌}
use native.Mathlib.Omega.{arith}
use lib.ListN.{length, set, length-append, length-set}
use Rattle.model.specs.Listing.{decimal}
use Rattle.text.specs.Text.{placed}
use Rattle.text.proofs.TextLaws.{placed_byte, length_placed, next_after, put_after}
use Rattle.text.proofs.DecimalLaws.{decimal_digit, decimal_last, length_decimal_most}
use Rattle.parts.specs.Spaced.{spaced_pointer}

-- a number and the byte that ends it
abbrev pub ended : (v y : ℕ) → List ℕ
ended v y = decimal v ++ (y ∷ [])

module _ (v a b y : ℕ) where
  pub next_after_number : b ≡ a + length (decimal v) → b + 1 ≡ a + length (ended v y)
  next_after_number q = omega (arith, length-append (decimal v) (y ∷ []))

  pub number_put : (most : ℕ) (t u : List ℕ) → u ≡ placed a (decimal v) t → b ≡ a + length (decimal v) → b ≤ a + most → a + (most + 1) ≤ length t
      → set u b y ≡ placed a (ended v y) t
  number_put most t u p q l h =
      let e : length u ≡ length t = ap length p ∙ length_placed a (decimal v) t (omega arith) in
      put_after a b (b + 1) (decimal v) (y ∷ []) t u (set u b y) p q (sym (placed_byte b y u (omega arith))) refl (omega arith)

pub ruleset number_laws = (next_after_number, number_put)

module _ (v a y : ℕ) (t : List ℕ) where
  pub after_one_digit_within : (x : ℕ) → a + 2 ≤ length t → a + 1 < length (set t a x)
  after_one_digit_within x h = omega (arith, length-set t a x)

  pub next_after_one_digit : v ≤ 9 → a + 2 ≡ a + length (ended v y)
  next_after_one_digit l = omega (arith, length-append (decimal v) (y ∷ []), ap length (decimal_digit v (omega arith)))

  pub one_digit_put : v ≤ 9 → a + 2 ≤ length t → set (set t a (48 + v)) (a + 1) y ≡ placed a (ended v y) t
  one_digit_put l h =
      let d : decimal v ≡ (48 + v) ∷ [] = decimal_digit v (omega arith) in
      let u : List ℕ = set t a (48 + v) in
      let p : u ≡ placed a (decimal v) t = sym (placed_byte a (48 + v) t (omega arith)) ∙ ap (λ bs. placed a bs t) (sym d) in
      let q : a + 1 ≡ a + length (decimal v) = omega (arith, ap length d) in
      put_after a (a + 1) (a + 2) (decimal v) (y ∷ []) t u (set u (a + 1) y) p q (sym (placed_byte (a + 1) y u (after_one_digit_within (48 + v) h))) (omega arith) h

pub ruleset one_digit_laws = (after_one_digit_within, next_after_one_digit, one_digit_put)

module _ (v a b y : ℕ) (least : 10 ≤ v) (most : v < 100) (q : b ≡ a + length (ended (v / 10) (48 + v % 10))) where
  two_digits : ended (v / 10) (48 + v % 10) ≡ decimal v
  two_digits = sym (decimal_last v least (omega arith))

  two_digits_long : b ≡ a + length (decimal v)
  two_digits_long = q ∙ ap (λ bs. a + length bs) two_digits

  pub next_after_two_digits : b + 1 ≡ a + length (ended v y)
  next_after_two_digits = next_after_number v a b y two_digits_long

  pub two_digits_put : (t u : List ℕ) → u ≡ placed a (ended (v / 10) (48 + v % 10)) t → b ≤ a + 2 → a + 11 ≤ length t → set u b y ≡ placed a (ended v y) t
  two_digits_put t u p l h = number_put v a b y 10 t u (p ∙ ap (λ bs. placed a bs t) two_digits) two_digits_long (omega arith) h

-- a number of at most five digits
pub short_within : (v a b y : ℕ) → v < 65536 → b ≡ a + length (ended v y) → b ≤ a + 6
short_within v a b y h q = omega (arith, length-append (decimal v) (y ∷ []), length_decimal_most 4 v (omega arith))

pub ruleset short_laws = (next_after_two_digits, two_digits_put, short_within)

-- a pointer: its numbers
module _ (r s w a b c d : ℕ) (t₀ t₁ t₂ t₃ : List ℕ)
    (p₁ : t₁ ≡ placed a (ended r 32) t₀) (q₁ : b ≡ a + length (ended r 32)) (l₁ : b ≤ a + 2)
    (p₂ : t₂ ≡ placed b (ended s 32) t₁) (q₂ : c ≡ b + length (ended s 32)) (l₂ : c ≤ b + 6)
    (p₃ : t₃ ≡ placed c (ended w 32) t₂) (q₃ : d ≡ c + length (ended w 32)) (l₃ : d ≤ c + 6) where
  segment_next : d ≡ b + length (ended s 32 ++ ended w 32)
  segment_next = next_after b c d (ended s 32) (ended w 32) q₂ q₃

  pub next_after_pointer : d ≡ a + length (spaced_pointer r s w)
  unfolding spaced_pointer
  next_after_pointer = next_after a b d (ended r 32) (ended s 32 ++ ended w 32) q₁ segment_next

  pub pointer_put : a + 19 ≤ length t₀ → t₃ ≡ placed a (spaced_pointer r s w) t₀
  unfolding spaced_pointer
  pointer_put h =
      let z : length t₁ ≡ length t₀ = ap length p₁ ∙ length_placed a (ended r 32) t₀ (omega arith) in
      put_after a b d (ended r 32) (ended s 32 ++ ended w 32) t₀ t₁ t₃ p₁ q₁
      (put_after b c d (ended s 32) (ended w 32) t₁ t₂ t₃ p₂ q₂ p₃ q₃ (omega arith))
      segment_next (omega arith)

pub ruleset pointer_laws = (next_after_pointer, pointer_put)

-- a name and a number
module _ (a b c v y : ℕ) (name t u w : List ℕ) where
  pub next_after_named : b ≡ a + length name → c ≡ b + length (ended v y) → c ≡ a + length (name ++ ended v y)
  next_after_named q s = next_after a b c name (ended v y) q s

  pub named_put : u ≡ placed a name t → b ≡ a + length name → w ≡ placed b (ended v y) u → c ≡ b + length (ended v y) → c ≤ b + 11
      → length name ≤ 8 → a + 19 ≤ length t → w ≡ placed a (name ++ ended v y) t
  named_put p q r s l k h = put_after a b c name (ended v y) t u w p q r s (omega arith)

pub ruleset named_laws = (next_after_named, named_put)
