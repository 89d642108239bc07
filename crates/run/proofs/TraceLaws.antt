-- What one note adds to a run's trace. Assumes nothing.
use mathlib.Core.Path.{◌≡◌, refl, ◌∙◌, ap}
use mathlib.Core.List.{List, [], ◌∷◌, ◌++◌, map-append}
use Prim.Native.Nat.{ℕ, ◌+◌, ◌*◌, ◌/◌, ◌%◌, ◌^◌, ◌≤◌, ◌<◌}
use native.Mathlib.Numerals.{add-one}
use native.Mathlib.Omega.{arith}
use lib.ListN.{length, take, set, length-set}
use lib.Seq.{take-set-le, take-suc-set}
use Rattle.model.specs.Words.{field, pointer_in, pointer_word}
use Rattle.model.specs.Run.{Traced}
use Rattle.run.specs.Run.{step_in, noted_steps, Noted}

pub none_noted : (c : ℕ) (p : Traced) (t : List ℕ) → length t ≤ c → Noted c p t t
none_noted c p t h = record { size_same = refl; before_same = refl; noted = λ g. absurd (omega arith) }

-- a pointer word below, and a count above it
fields_back : (n s i k : ℕ) → n ≤ 7 → s ≤ 4095 → i ≤ 65535 →
    step_in (pointer_word (record { ring = n; segment = s; word = i }) + 4294967296 * k) ≡ record { ipr = record { ring = n; segment = s; word = i }; pointers = k }
unfolding step_in pointer_in pointer_word field
fields_back n s i k x y z =
    λ j. record { ipr = record { ring = ring_same x y z j; segment = segment_same x y z j; word = word_same x y z j }; pointers = count_same x y z j }
  where
    w : ℕ
    w = i + 2 ^ 16 * s + 2 ^ 28 * n + 4294967296 * k

    ring_same : n ≤ 7 → s ≤ 4095 → i ≤ 65535 → w / 2 ^ 28 % 2 ^ 3 ≡ n
    ring_same x y z = omega arith

    segment_same : n ≤ 7 → s ≤ 4095 → i ≤ 65535 → w / 2 ^ 16 % 2 ^ 12 ≡ s
    segment_same x y z = omega arith

    word_same : n ≤ 7 → s ≤ 4095 → i ≤ 65535 → w / 2 ^ 0 % 2 ^ 16 ≡ i
    word_same x y z = omega arith

    count_same : n ≤ 7 → s ≤ 4095 → i ≤ 65535 → w / 4294967296 ≡ k
    count_same x y z = omega arith

pub one_noted : (c v k n s i : ℕ) (t : List ℕ) → v ≡ pointer_word (record { ring = n; segment = s; word = i }) → n ≤ 7 → s ≤ 4095 → i ≤ 65535 →
    Noted c (record { ipr = record { ring = n; segment = s; word = i }; pointers = k }) t (set t c (v + 4294967296 * k))
one_noted c v k n s i t e x y z = record { size_same = length-set t c w; before_same = take-set-le c t c w (omega arith); noted = added }
  where
    w : ℕ
    w = v + 4294967296 * k

    reads_back : step_in w ≡ record { ipr = record { ring = n; segment = s; word = i }; pointers = k }
    reads_back = ap step_in (ap (λ b. b + 4294967296 * k) e) ∙ fields_back n s i k x y z

    added : c < length t → noted_steps (take (c + 1) (set t c w)) ≡ noted_steps (take c t) ++ record { ipr = record { ring = n; segment = s; word = i }; pointers = k } ∷ []
    added h =
        ap (λ k. noted_steps (take k (set t c w))) (add-one c) ∙ ap noted_steps (take-suc-set t c w h) ∙ map-append step_in (take c t) (w ∷ [])
        ∙ ap (λ p. noted_steps (take c t) ++ p ∷ []) reads_back

pub note_fits : (v k n s i : ℕ) → v ≡ pointer_word (record { ring = n; segment = s; word = i }) → n ≤ 7 → s ≤ 4095 → i ≤ 65535 → k ≤ 64 → v + 4294967296 * k < 2 ^ 64
unfolding pointer_word
note_fits v k n s i e x y z h = rw e (omega arith)

pub ruleset notes = (none_noted, one_noted, note_fits)
