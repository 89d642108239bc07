-- Questions 2 and 3 of eight PRs at once: their rings as the bytes of one number, their segments joined bit by bit. Assumes nothing.
use mathlib.Core.Path.{◌≡◌, refl, sym, ◌∙◌, ap, ap₂}
use mathlib.Core.Bool.{Bool, true, false, ◌&&◌, not}
use mathlib.Core.List.{List, [], ◌∷◌, map}
use Prim.Native.Nat.{ℕ, zero, suc, ◌+◌, ◌-◌, ◌*◌, ◌/◌, ◌%◌, ◌≤◌, ◌<◌}
use native.Mathlib.Nat.{mod-eq_of_lt}
use native.Mathlib.Omega.{arith}
use lib.Bits.{bit_and, bit_or, and_block, and_high, and_le_l, and_le_r, or_block, or_lt, or_add_and, or_shifted_r, or_zero_r}
use lib.Dec.{leb, eqb}
use lib.ListN.{get_or, drop}
use borrow.Author.Tests.{not-false, leb-true, le-leb, eqb-true, eq-eqb}
use Rattle.model.specs.Words.{Pointer}
use Rattle.model.specs.Questions.{all, pointer_in_range, rings_at_least}
use Rattle.model.proofs.BranchLaws.{and_left, and_right, and_both}
use Rattle.state.specs.View.{pointers_in, as_pointers, pr_of}
use Rattle.host.specs.Rings.{packed, packed_rings, ones, eights, joined, joined_segments}

same_test : (p q : Bool) → (p ≡ true → q ≡ true) → (q ≡ true → p ≡ true) → p ≡ q
same_test true true f g = refl
same_test true false f g = sym (f refl)
same_test false true f g = g refl
same_test false false f g = refl

-- A TEST OF EACH
all_map : {A B : Type 0} (f : B → Bool) (g : A → B) (xs : List A) → all f (map g xs) ≡ all (λ x. f (g x)) xs
unfolding all
all_map f g [] = refl
all_map f g (x ∷ xs) = ap (λ b. f (g x) && b) (all_map f g xs)

-- two tests agree on each that passes a third
all_same : {A : Type 0} (f g h : A → Bool) → ((x : A) → h x ≡ true → f x ≡ g x) → (xs : List A) → all h xs ≡ true → all f xs ≡ all g xs
unfolding all
all_same f g h s [] e = refl
all_same f g h s (x ∷ xs) e = ap₂ (λ a b. a && b) (s x (and_left (h x) (all h xs) e)) (all_same f g h s xs (and_right (h x) (all h xs) e))

all_weaker : {A : Type 0} (f h : A → Bool) → ((x : A) → h x ≡ true → f x ≡ true) → (xs : List A) → all h xs ≡ true → all f xs ≡ true
unfolding all
all_weaker f h s [] e = refl
all_weaker f h s (x ∷ xs) e = and_both (f x) (all f xs) (s x (and_left (h x) (all h xs) e)) (all_weaker f h s xs (and_right (h x) (all h xs) e))

-- BYTES
-- the same byte for each
abbrev each_byte : ℕ → List ℕ → ℕ
each_byte m ns = packed (map (λ _. m) ns)

each_byte_map : (m : ℕ) (g : ℕ → ℕ) (ns : List ℕ) → each_byte m (map g ns) ≡ each_byte m ns
unfolding packed
each_byte_map m g [] = refl
each_byte_map m g (n ∷ ns) = ap (λ k. k * 256 + m) (each_byte_map m g ns)

abbrev bytes : List ℕ → Type 0
bytes ns = all (λ n. leb n 255) ns ≡ true

equal_bytes : (x y z t : ℕ) → y ≤ 255 → t ≤ 255 → eqb (x * 256 + y) (z * 256 + t) ≡ (eqb y t && eqb x z)
equal_bytes x y z t a b =
    same_test _ _
    (λ e. let h = eqb-true (x * 256 + y) (z * 256 + t) e in and_both (eqb y t) (eqb x z) (eq-eqb y t (omega arith)) (eq-eqb x z (omega arith)))
    (λ e. let h = eqb-true y t (and_left (eqb y t) (eqb x z) e) in let k = eqb-true x z (and_right (eqb y t) (eqb x z) e) in eq-eqb (x * 256 + y) (z * 256 + t) (omega arith))

-- one mask and one comparison are those of each byte
module _ (m t : ℕ) (a : m ≤ 255) (b : t ≤ 255) where
  masked : (ns : List ℕ) → bytes ns → eqb (bit_and (packed ns) (each_byte m ns)) (each_byte t ns) ≡ all (λ n. eqb (bit_and n m) t) ns
  unfolding packed all
  masked [] h = refl
  masked (n ∷ ns) h =
      let below = leb-true n 255 (and_left (leb n 255) _ h) in
      let small = and_le_r n m in
      ap (λ k. eqb k (each_byte t ns * 256 + t)) (and_block 8 (packed ns) (each_byte m ns) n m (omega arith) (omega arith))
      ∙ equal_bytes (bit_and (packed ns) (each_byte m ns)) (bit_and n m) (each_byte t ns) t (omega arith) b
      ∙ ap (λ c. eqb (bit_and n m) t && c) (masked ns (and_right (leb n 255) _ h))

-- 2: the five upper bits are off
ring_test : (n : ℕ) → leb n 255 ≡ true → eqb (bit_and n 248) 0 ≡ leb n 7
ring_test n h =
    let below = leb-true n 255 h in
    let bits : bit_and n 248 ≡ n / 8 % 32 * 8 = and_high n 5 3 in
    same_test _ _
    (λ e. let z = eqb-true (bit_and n 248) 0 e in let y : n / 8 % 32 ≡ n / 8 = mod-eq_of_lt (let x : n / 8 < 32 = omega arith in x) in le-leb n 7 (omega arith))
    (λ e. let z = leb-true n 7 e in eq-eqb (bit_and n 248) 0 (omega arith))

-- 3: where 8 is added and a ring is taken away, bit 3 is on if nothing of the 8 was needed
least_test : (r : ℕ) → r ≤ 7 → (n : ℕ) → leb n 7 ≡ true → eqb (bit_and (n + 8 - r) 8) 8 ≡ leb r n
least_test r g n h =
    let below = leb-true n 7 h in
    let bits : bit_and (n + 8 - r) 8 ≡ (n + 8 - r) / 8 % 2 * 8 = and_high (n + 8 - r) 1 3 in
    same_test _ _
    (λ e. let z = eqb-true (bit_and (n + 8 - r) 8) 8 e in le-leb r n (omega arith))
    (λ e. let z = leb-true r n e in eq-eqb (bit_and (n + 8 - r) 8) 8 (omega arith))

no_borrow : (r : ℕ) → r ≤ 8 → (ns : List ℕ) → packed (map (λ n. n + 8 - r) ns) + r * each_byte 1 ns ≡ packed ns + each_byte 8 ns
unfolding packed
no_borrow r h [] = omega arith
no_borrow r h (n ∷ ns) = let e = no_borrow r h ns in omega arith

-- bit 3 of bytes that don't have it
with_eights : (ns : List ℕ) → all (λ n. leb n 7) ns ≡ true → bit_or (packed ns) (each_byte 8 ns) ≡ packed ns + each_byte 8 ns
unfolding packed all
with_eights [] h = refl
with_eights (n ∷ ns) h =
    let y = leb-true n 7 (and_left (leb n 7) _ h) in
    let low : bit_or n 8 ≡ 8 + n = or_shifted_r 1 3 n (omega arith) in
    let high = with_eights ns (and_right (leb n 7) _ h) in
    or_block 8 (packed ns) (each_byte 8 ns) n 8 (omega arith) (omega arith) ∙ omega arith

module _ (r : ℕ) (h : r ≤ 7) where
  moved : (ns : List ℕ) → packed ns + each_byte 8 ns - r * each_byte 1 ns ≡ packed (map (λ n. n + 8 - r) ns)
  moved ns = let e = no_borrow r (omega arith) ns in omega arith

  moved_are_bytes : (ns : List ℕ) → all (λ n. leb n 7) ns ≡ true → bytes (map (λ n. n + 8 - r) ns)
  moved_are_bytes ns g =
      all_map (λ n. leb n 255) (λ n. n + 8 - r) ns
      ∙ all_weaker (λ n. leb (n + 8 - r) 255) (λ n. leb n 7) (λ n z. let y = leb-true n 7 z in le-leb (n + 8 - r) 255 (omega arith)) ns g

  least : (ns : List ℕ) → all (λ n. leb n 7) ns ≡ true →
      eqb (bit_and (bit_or (packed ns) (each_byte 8 ns) - r * each_byte 1 ns) (each_byte 8 ns)) (each_byte 8 ns) ≡ all (λ n. leb r n) ns
  least ns g =
      ap₂ (λ a b. eqb (bit_and a b) b) (ap (λ k. k - r * each_byte 1 ns) (with_eights ns g) ∙ moved ns) (sym (each_byte_map 8 (λ n. n + 8 - r) ns))
      ∙ masked 8 8 (omega arith) (omega arith) (map (λ n. n + 8 - r) ns) (moved_are_bytes ns g)
      ∙ all_map (λ n. eqb (bit_and n 8) 8) (λ n. n + 8 - r) ns
      ∙ all_same _ (λ n. leb r n) (λ n. leb n 7) (least_test r h) ns g

-- JOINED BITS are within 12 where each number's are
or_test : (a b : ℕ) → leb (bit_or a b) 4095 ≡ (leb a 4095 && leb b 4095)
or_test a b =
    let sum = or_add_and a b in
    let left = and_le_l a b in
    let right = and_le_r a b in
    same_test _ _
    (λ e. let z = leb-true (bit_or a b) 4095 e in and_both (leb a 4095) (leb b 4095) (le-leb a 4095 (omega arith)) (le-leb b 4095 (omega arith)))
    (λ e.
    let x = leb-true a 4095 (and_left (leb a 4095) (leb b 4095) e) in
    let y = leb-true b 4095 (and_right (leb a 4095) (leb b 4095) e) in
    let z : bit_or a b < 4096 = or_lt 12 a b (omega arith) (omega arith) in
    le-leb (bit_or a b) 4095 (omega arith))

joined_test : (ns : List ℕ) → leb (joined ns) 4095 ≡ all (λ n. leb n 4095) ns
unfolding joined all
joined_test [] = refl
joined_test (n ∷ ns) = or_test n (joined ns) ∙ ap (λ b. leb n 4095 && b) (joined_test ns)

-- TESTS OF POINTERS
both_tests : (a x b y w z : Bool) → w ≡ true → (x && y) ≡ z → ((a && x) && (b && y)) ≡ ((a && (b && w)) && z)
both_tests true x true y w z e f = f ∙ ap (λ v. v && z) (sym e)
both_tests true true false y w z e f = refl
both_tests true false false y w z e f = refl
both_tests false x true y w z e f = refl
both_tests false x false y w z e f = refl

in_range_test : (ps : List Pointer) → all (λ p. leb p.word 65535) ps ≡ true →
    (all (λ p. leb p.ring 7) ps && all (λ p. leb p.segment 4095) ps) ≡ all pointer_in_range ps
unfolding all pointer_in_range
in_range_test [] h = refl
in_range_test (p ∷ ps) h =
    let others = all (λ q. leb q.word 65535) ps in
    both_tests (leb p.ring 7) _ (leb p.segment 4095) _ (leb p.word 65535) _
    (and_left (leb p.word 65535) others h) (in_range_test ps (and_right (leb p.word 65535) others h))

in_range_ring : (p : Pointer) → pointer_in_range p ≡ true → leb p.ring 7 ≡ true
unfolding pointer_in_range
in_range_ring p h = and_left (leb p.ring 7) _ h

-- THE EIGHT PRS
abbrev rings : (prs : List ℕ) → List ℕ
rings prs = map (λ p. p.ring) (as_pointers prs)

rings_are_bytes_of : (n : ℕ) (ns : List ℕ) → bytes (map (λ p. p.ring) (pointers_in n ns))
unfolding all pointers_in
rings_are_bytes_of zero ns = refl
rings_are_bytes_of (suc n) ns = and_both (leb (get_or ns 0 0 % 256) 255) _ (le-leb (get_or ns 0 0 % 256) 255 (omega arith)) (rings_are_bytes_of n (drop 3 ns))

rings_are_bytes : (prs : List ℕ) → bytes (rings prs)
unfolding as_pointers
rings_are_bytes prs = rings_are_bytes_of 8 prs

module _ (prs : List ℕ) (k n s i : ℕ) (e : record { ring = n; segment = s; word = i } ≡ pr_of prs k) where
  pub ring_read : n ≡ (pr_of prs k).ring
  ring_read = ap (λ (p : Pointer). p.ring) e

  pub segment_read : s ≡ (pr_of prs k).segment
  segment_read = ap (λ (p : Pointer). p.segment) e

  pub word_read : i ≤ 65535 → (pr_of prs k).word ≤ 65535
  word_read h = let y : i ≡ (pr_of prs k).word = ap (λ (p : Pointer). p.word) e in omega arith

sum_of_bytes : (r0 r1 r2 r3 r4 r5 r6 r7 : ℕ) → r0 + 256 * r1 + 65536 * r2 + 16777216 * r3 + 4294967296 * r4 + 1099511627776 * r5 + 281474976710656 * r6 + 72057594037927936 * r7 ≡ (((((((0 * 256 + r7) * 256 + r6) * 256 + r5) * 256 + r4) * 256 + r3) * 256 + r2) * 256 + r1) * 256 + r0
sum_of_bytes r0 r1 r2 r3 r4 r5 r6 r7 = omega arith

module _ (prs : List ℕ) (r0 r1 r2 r3 r4 r5 r6 r7 : ℕ) where
  pub rings_packed : r0 ≡ (pr_of prs 0).ring → r1 ≡ (pr_of prs 1).ring → r2 ≡ (pr_of prs 2).ring → r3 ≡ (pr_of prs 3).ring → r4 ≡ (pr_of prs 4).ring → r5 ≡ (pr_of prs 5).ring → r6 ≡ (pr_of prs 6).ring → r7 ≡ (pr_of prs 7).ring →
      r0 + 256 * r1 + 65536 * r2 + 16777216 * r3 + 4294967296 * r4 + 1099511627776 * r5 + 281474976710656 * r6 + 72057594037927936 * r7 ≡ packed_rings (as_pointers prs)
  unfolding as_pointers pointers_in pr_of packed_rings packed
  rings_packed e0 e1 e2 e3 e4 e5 e6 e7 = sum_of_bytes r0 r1 r2 r3 r4 r5 r6 r7 ∙ rw (e0, e1, e2, e3, e4, e5, e6, e7)

  pub segments_joined : r0 ≡ (pr_of prs 0).segment → r1 ≡ (pr_of prs 1).segment → r2 ≡ (pr_of prs 2).segment → r3 ≡ (pr_of prs 3).segment → r4 ≡ (pr_of prs 4).segment → r5 ≡ (pr_of prs 5).segment → r6 ≡ (pr_of prs 6).segment → r7 ≡ (pr_of prs 7).segment →
      bit_or r0 (bit_or r1 (bit_or r2 (bit_or r3 (bit_or r4 (bit_or r5 (bit_or r6 r7)))))) ≡ joined_segments (as_pointers prs)
  unfolding as_pointers pointers_in pr_of joined_segments joined
  segments_joined e0 e1 e2 e3 e4 e5 e6 e7 = ap (λ n. bit_or r0 (bit_or r1 (bit_or r2 (bit_or r3 (bit_or r4 (bit_or r5 (bit_or r6 n))))))) (sym (or_zero_r r7)) ∙ rw (e0, e1, e2, e3, e4, e5, e6, e7)

pub words_are_within : (prs : List ℕ) → (pr_of prs 0).word ≤ 65535 → (pr_of prs 1).word ≤ 65535 → (pr_of prs 2).word ≤ 65535 → (pr_of prs 3).word ≤ 65535 → (pr_of prs 4).word ≤ 65535 → (pr_of prs 5).word ≤ 65535 → (pr_of prs 6).word ≤ 65535 → (pr_of prs 7).word ≤ 65535 → all (λ p. leb p.word 65535) (as_pointers prs) ≡ true
unfolding as_pointers pointers_in pr_of all
words_are_within prs e0 e1 e2 e3 e4 e5 e6 e7 = rw (le-leb _ _ e0, le-leb _ _ e1, le-leb _ _ e2, le-leb _ _ e3, le-leb _ _ e4, le-leb _ _ e5, le-leb _ _ e6, le-leb _ _ e7)

-- 2
upper_bits : (prs : List ℕ) → eqb (bit_and (packed_rings (as_pointers prs)) 17940362863843014904) 0 ≡ all (λ r. eqb (bit_and r 248) 0) (rings prs)
unfolding as_pointers pointers_in packed_rings packed
upper_bits prs = masked 248 0 (omega arith) (omega arith) (rings prs) (rings_are_bytes prs)

segments_test : (prs : List ℕ) → leb (joined_segments (as_pointers prs)) 4095 ≡ all (λ s. leb s 4095) (map (λ p. p.segment) (as_pointers prs))
unfolding joined_segments
segments_test prs = joined_test (map (λ p. p.segment) (as_pointers prs))

pub all_in_range : (prs : List ℕ) (n s : ℕ) → n ≡ packed_rings (as_pointers prs) → s ≡ joined_segments (as_pointers prs) →
    all (λ p. leb p.word 65535) (as_pointers prs) ≡ true → (eqb (bit_and n 17940362863843014904) 0 && leb s 4095) ≡ all pointer_in_range (as_pointers prs)
all_in_range prs n s e f w =
    ap₂ (λ a b. a && b)
    (ap (λ k. eqb (bit_and k 17940362863843014904) 0) e ∙ upper_bits prs ∙ all_same _ (λ r. leb r 7) (λ r. leb r 255) ring_test (rings prs) (rings_are_bytes prs)
    ∙ all_map (λ r. leb r 7) (λ p. p.ring) (as_pointers prs))
    (ap (λ k. leb k 4095) f ∙ segments_test prs ∙ all_map (λ r. leb r 4095) (λ p. p.segment) (as_pointers prs))
    ∙ in_range_test (as_pointers prs) w

-- what 2 says of those that passed
module _ (t : Bool) (h : not t ≡ false) where
  pub ring_within : (n s i : ℕ) → t ≡ pointer_in_range (record { ring = n; segment = s; word = i }) → n ≤ 7
  unfolding pointer_in_range
  ring_within n s i e = leb-true n 7 (and_left (leb n 7) _ (sym e ∙ not-false t h))

  pub prs_within : (ps : List Pointer) → t ≡ all pointer_in_range ps → all pointer_in_range ps ≡ true
  prs_within ps e = sym e ∙ not-false t h

-- 3
module _ (prs : List ℕ) (h : all pointer_in_range (as_pointers prs) ≡ true) where
  rings_at_most_7 : all (λ r. leb r 7) (rings prs) ≡ true
  rings_at_most_7 = all_map (λ r. leb r 7) (λ p. p.ring) (as_pointers prs) ∙ all_weaker (λ p. leb p.ring 7) pointer_in_range in_range_ring (as_pointers prs) h

  rings_least : (r : ℕ) → r ≤ 7 → eqb (bit_and (bit_or (packed_rings (as_pointers prs)) eights - r * ones) eights) eights ≡ all (λ k. leb r k) (rings prs)
  unfolding as_pointers pointers_in packed_rings packed
  rings_least r a = least r a (rings prs) rings_at_most_7

  pub all_at_least : (n : ℕ) → n ≡ packed_rings (as_pointers prs) → (r : ℕ) → r ≤ 7 → (t : Bool) →
      t ≡ eqb (bit_and (bit_or n eights - r * ones) eights) eights → t ≡ rings_at_least r (as_pointers prs)
  unfolding rings_at_least
  all_at_least n e r a t f =
      f ∙ ap (λ k. eqb (bit_and (bit_or k eights - r * ones) eights) eights) e ∙ rings_least r a
      ∙ all_map (λ k. leb r k) (λ p. p.ring) (as_pointers prs)

pub eights_enough : (n r : ℕ) → r ≤ 7 → r * ones ≤ bit_or n eights
eights_enough n r h = let y = or_add_and n eights in let z = and_le_l n eights in omega arith

pub ruleset eight_at_once = (ring_read, segment_read, word_read, rings_packed, segments_joined, words_are_within, all_in_range, ring_within, prs_within, all_at_least, eights_enough)
