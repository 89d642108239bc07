-- How long the parts of a written image are, and a number's bytes with the last apart. Assumes nothing.
use mathlib.Core.Path.{◌≡◌, refl, sym, ap, ap₂, ◌∙◌}
use mathlib.Core.Bool.{Bool, true, false, cond}
use mathlib.Core.List.{List, [], ◌∷◌, ◌++◌}
use Prim.Native.Nat.{ℕ, zero, suc, ◌+◌, ◌*◌, ◌/◌, ◌%◌, ◌^◌, ◌≤◌}
use native.Mathlib.Nat.{pow-succ', div-div-eq-div-mul, div-one}
use native.Mathlib.Omega.{arith}
use lib.Dec.{eqb}
use lib.ListN.{length, length-append}
use Rattle.model.specs.Words.{Pointer}
use Rattle.model.specs.Registers.{Registers, Delivery}
use Rattle.model.specs.Listing.{ascii}
use Rattle.model.specs.Write.{bytes, pointer_bytes, pointers_bytes, ME_record, stored_ST, delivery_bytes, ST_record, WD_record, RN_record, word_records}

pub length_bytes : (n v : ℕ) → length (bytes n v) ≡ n
unfolding bytes
length_bytes zero v = refl
length_bytes (suc n) v = ap suc (length_bytes n v)

pub bytes_last : (n v : ℕ) → bytes (suc n) v ≡ bytes n (v / 256) ++ ((v % 256) ∷ [])
unfolding bytes
bytes_last zero v = ap (λ x. x % 256 ∷ []) (div-one v)
bytes_last (suc n) v =
    ap₂ (λ x bs. x % 256 ∷ bs) (ap (λ y. v / y) (pow-succ' 256 n) ∙ sym (div-div-eq-div-mul v 256 (256 ^ n))) (bytes_last n v)

pub length_pointer_bytes : (p : Pointer) → length (pointer_bytes p) ≡ 5
unfolding pointer_bytes bytes
length_pointer_bytes p = refl

pub length_pointers_bytes : (ps : List Pointer) → length (pointers_bytes ps) ≡ 5 * length ps
unfolding pointers_bytes
length_pointers_bytes [] = refl
length_pointers_bytes (p ∷ ps) =
    length-append (pointer_bytes p) (pointers_bytes ps) ∙ ap₂ ◌+◌ (length_pointer_bytes p) (length_pointers_bytes ps) ∙ omega arith

pub length_ME : (n : ℕ) → length (ME_record n) ≡ 6
unfolding ME_record ascii bytes
length_ME n = refl

pub length_RN : (b : ℕ) → length (RN_record b) ≡ 6
unfolding RN_record ascii bytes
length_RN b = refl

pub length_WD : (a w : ℕ) → length (WD_record a w) ≡ 14
unfolding WD_record ascii bytes
length_WD a w = refl

pub length_delivery_bytes : (v : Delivery) → length (delivery_bytes v) ≡ 5
unfolding delivery_bytes bytes
length_delivery_bytes v = refl

pub length_stored_ST : (r : Registers) → length (stored_ST r) ≡ 21 + 5 * length r.prs
unfolding stored_ST ascii bytes pointer_bytes
length_stored_ST r = omega (arith, length_pointers_bytes r.prs)

pub length_ST : (r : Registers) (v : Delivery) → length (ST_record r v) ≡ 26 + 5 * length r.prs
unfolding ST_record
length_ST r v = omega (arith, length-append (stored_ST r) (delivery_bytes v), length_stored_ST r, length_delivery_bytes v)

-- a word that isn't zero has fourteen bytes
length_word_or_none : (is_zero : Bool) (a w : ℕ) → length (cond is_zero [] (WD_record a w)) ≤ 14
length_word_or_none true a w = omega arith
length_word_or_none false a w = omega (arith, length_WD a w)

pub length_word_records : (a : ℕ) (ws : List ℕ) → length (word_records a ws) ≤ 14 * length ws
unfolding word_records
length_word_records a [] = omega arith
length_word_records a (w ∷ ws) =
    let one : List ℕ = cond (eqb w 0) [] (WD_record a w) in
    omega (arith, length-append one (word_records (suc a) ws), length_word_or_none (eqb w 0) a w, length_word_records (suc a) ws)
