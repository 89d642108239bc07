-- A number's decimal digits, the last one apart, and how many there are. Assumes nothing.
use mathlib.Core.Path.{◌≡◌, refl, sym, ap, ◌∙◌}
use mathlib.Core.Bool.{Bool, true, false}
use mathlib.Core.List.{List, [], ◌∷◌, ◌++◌}
use Prim.Native.Nat.{ℕ, zero, suc, ◌+◌, ◌*◌, ◌/◌, ◌%◌, ◌^◌, ◌≤◌, ◌<◌}
use native.Mathlib.Nat.{pow-suc, one-le-pow}
use native.Mathlib.Omega.{arith}
use lib.Dec.{ltb}
use lib.ListN.{length, length-append}
use borrow.Author.Tests.{lt-ltb, le-ltb, ltb-true, ltb-false}
use Rattle.model.specs.Listing.{digits, decimal}

-- below ten, and from ten on
digits_one : (n v : ℕ) (ds : List ℕ) → v < 10 → digits (suc n) v ds ≡ (48 + v) ∷ ds
unfolding digits
digits_one n v ds h = simp (lt-ltb v 10 h)

digits_more : (n v : ℕ) (ds : List ℕ) → 10 ≤ v → digits (suc n) v ds ≡ digits n (v / 10) ((48 + v % 10) ∷ ds)
unfolding digits
digits_more n v ds h = simp (le-ltb v 10 h)

pub by_ten : {A : Type 0} (v : ℕ) → (v < 10 → A) → (10 ≤ v → A) → A
by_ten {A} v f g = by (ltb v 10) refl
  where
    by : (b : Bool) → ltb v 10 ≡ b → A
    by true e = f (ltb-true v 10 e)
    by false e = g (ltb-false v 10 e)

-- the digits written so far stand behind those still to come
digits_append : (n v : ℕ) (ds es : List ℕ) → digits n v (ds ++ es) ≡ digits n v ds ++ es
unfolding digits
digits_append zero v ds es = refl
digits_append (suc n) v ds es =
    by_ten v (λ h. digits_one n v (ds ++ es) h ∙ ap (λ z. z ++ es) (sym (digits_one n v ds h)))
    (λ h. digits_more n v (ds ++ es) h ∙ digits_append n (v / 10) ((48 + v % 10) ∷ ds) es ∙ ap (λ z. z ++ es) (sym (digits_more n v ds h)))

tenth_below : (v k : ℕ) → v < 10 ^ suc k → v / 10 < 10 ^ k
tenth_below v k h = let e : 10 ^ suc k ≡ 10 ^ k * 10 = pow-suc 10 k in omega arith

tenth_from : (v k : ℕ) → 10 ^ suc k ≤ v → 10 ^ k ≤ v / 10
tenth_from v k h = let e : 10 ^ suc k ≡ 10 ^ k * 10 = pow-suc 10 k in omega arith

-- room for more digits than the number has changes nothing
digits_enough : (n v : ℕ) (ds : List ℕ) → v < 10 ^ suc n → digits (suc (suc n)) v ds ≡ digits (suc n) v ds
digits_enough zero v ds h = digits_one 1 v ds h ∙ sym (digits_one 0 v ds h)
digits_enough (suc n) v ds h =
    by_ten v (λ l. digits_one (suc (suc n)) v ds l ∙ sym (digits_one (suc n) v ds l))
    (λ l. digits_more (suc (suc n)) v ds l ∙ digits_enough n (v / 10) ((48 + v % 10) ∷ ds) (tenth_below v (suc n) h) ∙ sym (digits_more (suc n) v ds l))

length_digits : (k n v : ℕ) (ds : List ℕ) → k < n → 10 ^ k ≤ v → v < 10 ^ suc k → length (digits n v ds) ≡ suc k + length ds
length_digits zero zero v ds r l h = absurd (omega arith)
length_digits (suc k) zero v ds r l h = absurd (omega arith)
length_digits zero (suc n) v ds r l h = ap length (digits_one n v ds h) ∙ omega arith
length_digits (suc k) (suc n) v ds r l h =
    let e : 10 ^ suc k ≡ 10 ^ k * 10 = pow-suc 10 k in
    let p : 1 ≤ 10 ^ k = one-le-pow k 10 (omega arith) in
    let ten : 10 ≤ v = omega arith in
    ap length (digits_more n v ds ten) ∙ length_digits k n (v / 10) ((48 + v % 10) ∷ ds) (omega arith) (tenth_from v k l) (tenth_below v (suc k) h)
    ∙ omega arith

pub decimal_digit : (v : ℕ) → v < 10 → decimal v ≡ (48 + v) ∷ []
unfolding decimal
decimal_digit v h = digits_one 19 v [] h

pub decimal_last : (v : ℕ) → 10 ≤ v → v < 18446744073709551616 → decimal v ≡ decimal (v / 10) ++ ((48 + v % 10) ∷ [])
unfolding decimal
decimal_last v l h =
    digits_more 19 v [] l ∙ digits_append 19 (v / 10) [] ((48 + v % 10) ∷ [])
    ∙ ap (λ z. z ++ ((48 + v % 10) ∷ [])) (sym (digits_enough 18 (v / 10) [] (omega arith)))

-- how many digits there are
pub length_decimal_digit : (v : ℕ) → v < 10 → 1 ≡ length (decimal v)
length_decimal_digit v h = sym (ap length (decimal_digit v h))

pub length_decimal : (k v : ℕ) → k < 20 → 10 ^ k ≤ v → v < 10 ^ suc k → suc k ≡ length (decimal v)
unfolding decimal
length_decimal k v r l h = sym (length_digits k 20 v [] r l h ∙ omega arith)

pub length_decimal_log : (k v : ℕ) → k < 20 → 10 ^ k ≤ v → v < 10 * 10 ^ k → k + 1 ≡ length (decimal v)
length_decimal_log k v r l h = let e : 10 ^ suc k ≡ 10 ^ k * 10 = pow-suc 10 k in omega (arith, length_decimal k v r l (omega arith))

pub length_decimal_tenth : (v : ℕ) → 10 ≤ v → v < 18446744073709551616 → length (decimal v) ≡ length (decimal (v / 10)) + 1
length_decimal_tenth v l h = ap length (decimal_last v l h) ∙ length-append (decimal (v / 10)) ((48 + v % 10) ∷ [])

length_digits_least : (n v : ℕ) (ds : List ℕ) → length ds ≤ length (digits n v ds)
unfolding digits
length_digits_least zero v ds = omega arith
length_digits_least (suc n) v ds =
    by_ten v (λ l. omega (arith, ap length (digits_one n v ds l)))
    (λ l. omega (arith, ap length (digits_more n v ds l), length_digits_least n (v / 10) ((48 + v % 10) ∷ ds)))

pub decimal_not_empty : (v : ℕ) → 1 ≤ length (decimal v)
unfolding decimal
decimal_not_empty v =
    by_ten v (λ l. omega (arith, length_decimal_digit v l))
    (λ l. omega (arith, ap length (digits_more 19 v [] l), length_digits_least 19 (v / 10) ((48 + v % 10) ∷ [])))

-- at most so many, by the number's size
length_digits_most : (k n v : ℕ) (ds : List ℕ) → v < 10 ^ suc k → length (digits n v ds) ≤ suc k + length ds
unfolding digits
length_digits_most k zero v ds h = omega arith
length_digits_most zero (suc n) v ds h = omega (arith, ap length (digits_one n v ds h))
length_digits_most (suc k) (suc n) v ds h =
    by_ten v (λ l. omega (arith, ap length (digits_one n v ds l)))
    (λ l. omega (arith, ap length (digits_more n v ds l), length_digits_most k n (v / 10) ((48 + v % 10) ∷ ds) (tenth_below v (suc k) h)))

pub length_decimal_most : (k v : ℕ) → v < 10 ^ suc k → length (decimal v) ≤ suc k
unfolding decimal
length_decimal_most k v h = omega (arith, length_digits_most k 20 v [] h)
