-- A step's number kept between lines: its digits, and its line from them. Assumes nothing.
use mathlib.Core.Path.{◌≡◌, refl, sym, ap, ap₂, ◌∙◌}
use mathlib.Core.List.{List, [], ◌∷◌, ◌++◌, append_assoc}
use Prim.Native.Nat.{ℕ, ◌+◌, ◌/◌, ◌%◌, ◌≤◌, ◌<◌}
use native.Mathlib.Omega.{arith}
use lib.ListN.{length, take, length-append}
use lib.Seq.{length-take-le, take-take}
use borrow.Author.Tests.{lt-ltb, le-ltb}
use Rattle.model.specs.Run.{Traced}
use Rattle.model.specs.Listing.{ascii, decimal, line, step_line}
use Rattle.text.specs.Text.{placed}
use Rattle.text.proofs.TextLaws.{take_placed, placed_over}
use Rattle.text.proofs.DecimalLaws.{by_ten, decimal_digit, decimal_last, decimal_not_empty, length_decimal_most}
use Rattle.lines.specs.declared.Number.{Number}
use Rattle.lines.specs.Kept.{tens_of, Kept}
use Rattle.parts.proofs.PartLaws.{ended}
use Rattle.lines.proofs.LineLaws.{length_of_step_line}

-- a number's tens, and its digits from them
no_tens : (v : ℕ) → v < 10 → tens_of v ≡ []
unfolding tens_of
no_tens v h = simp (lt-ltb v 10 h)

some_tens : (v : ℕ) → 10 ≤ v → tens_of v ≡ decimal (v / 10)
unfolding tens_of
some_tens v h = simp (le-ltb v 10 h)

decimal_tens : (v : ℕ) → v < 4294967296 → tens_of v ++ decimal (v % 10) ≡ decimal v
decimal_tens v h =
    by_ten v (λ l. ap₂ (λ ds o. ds ++ decimal o) (no_tens v l) (let e : v % 10 ≡ v = omega arith in e))
    (λ l. ap₂ ◌++◌ (some_tens v l) (decimal_digit (v % 10) (omega arith)) ∙ sym (decimal_last v l (omega arith)))

step_line_tens : (v : ℕ) (x : Traced) → v < 4294967296 → tens_of v ++ step_line (v % 10) x ≡ step_line v x
unfolding step_line line ascii
step_line_tens v x h =
    let after : List ℕ = line (decimal x.ipr.ring ∷ decimal x.ipr.segment ∷ decimal x.ipr.word ∷ decimal x.pointers ∷ []) in
    sym (append_assoc (tens_of v) (ended (v % 10) 32) after)
    ∙ ap (λ ds. ds ++ after) (sym (append_assoc (tens_of v) (decimal (v % 10)) (32 ∷ [])) ∙ ap (λ ds. ds ++ (32 ∷ [])) (decimal_tens v h))

-- how a number comes to be kept
pub kept_digit : (tens : List ℕ) (v : ℕ) → v < 10 → Kept tens (record { value = v; ones = v; width = 0 })
kept_digit tens v h = record { last = omega arith; front = sym (no_tens v h); narrow = omega arith; fits = omega arith }

pub kept_tens : (t u : List ℕ) (v w : ℕ) → 10 ≤ v → v < 4294967296 → u ≡ placed 0 (decimal (v / 10)) t → w ≡ 0 + length (decimal (v / 10))
    → Kept u (record { value = v; ones = v % 10; width = w })
kept_tens t u v w l h p q =
    record {
      last = refl;
      front = ap₂ take q p ∙ take_placed 0 (decimal (v / 10)) t (omega arith) ∙ sym (some_tens v l);
      narrow = omega (arith, length_decimal_most 8 (v / 10) (omega arith));
      fits = h;
    }

pub kept_next : (tens : List ℕ) (n : Number) → Kept tens n → n.ones < 9 → n.value < 4294967295 → Kept tens (record { value = n.value + 1; ones = n.ones + 1; width = n.width })
kept_next tens n k h m =
    let v : ℕ = n.value in
    let e : n.ones ≡ v % 10 = k.last in
    record {
      last = omega arith;
      front = k.front
          ∙ by_ten v (λ l. no_tens v l ∙ sym (no_tens (v + 1) (omega arith)))
          (λ l. some_tens v l ∙ ap decimal (let f : v / 10 ≡ (v + 1) / 10 = omega arith in f) ∙ sym (some_tens (v + 1) (omega arith)));
      narrow = k.narrow;
      fits = omega arith;
    }

pub ruleset kept_laws = (kept_digit, kept_tens, kept_next)

-- no line is shorter: each of its numbers has a digit
step_line_least : (n : ℕ) (x : Traced) → 10 ≤ length (step_line n x)
step_line_least n x =
    omega (
      arith,
      length_of_step_line n x,
      decimal_not_empty n,
      decimal_not_empty x.ipr.ring,
      decimal_not_empty x.ipr.segment,
      decimal_not_empty x.ipr.word,
      decimal_not_empty x.pointers,
    )

-- a kept number's line: its tens and some bytes more, which the line from its last digit on covers
module _ (tens : List ℕ) (n : Number) (x : Traced) (a b k : ℕ) (kept : Kept tens n) (l : n.width ≤ k) (m : k ≤ length tens)
    (q : b ≡ a + n.width + length (step_line n.ones x)) where
  whole : take n.width tens ++ step_line n.ones x ≡ step_line n.value x
  whole = ap₂ (λ ds o. ds ++ step_line o x) kept.front kept.last ∙ step_line_tens n.value x kept.fits

  pub next_after_kept_line : b ≡ a + length (step_line n.value x)
  next_after_kept_line =
      omega (arith, length-append (take n.width tens) (step_line n.ones x), length-take-le n.width tens (omega arith), ap length whole)

  pub kept_line_put : (t u v : List ℕ) → u ≡ placed a (take k tens) t → k ≤ n.width + 8 → v ≡ placed (a + n.width) (step_line n.ones x) u
      → b ≤ a + n.width + 22 → a + 64 ≤ length t → v ≡ placed a (step_line n.value x) t
  kept_line_put t u v e₁ g e₂ h r =
      let f : n.width ≤ 9 = kept.narrow in
      let z : length (take k tens) ≡ k = length-take-le k tens m in
      e₂ ∙ ap (placed (a + n.width) (step_line n.ones x)) e₁
      ∙ placed_over a n.width (take k tens) (step_line n.ones x) t (omega arith) (omega (arith, step_line_least n.ones x)) (omega arith)
      ∙ ap (λ ds. placed a (ds ++ step_line n.ones x) t) (take-take n.width k tens l)
      ∙ ap (λ bs. placed a bs t) whole

pub ruleset kept_line_laws = (next_after_kept_line, kept_line_put)
