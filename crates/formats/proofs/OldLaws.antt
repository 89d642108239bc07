-- The statements of Renewed. Assumes nothing.
use mathlib.Core.Path.{◌≡◌, refl, sym, ap, ◌∙◌}
use mathlib.Core.Bool.{Bool, true, false, ◌||◌, not, cond}
use mathlib.Core.List.{List, [], ◌∷◌, map}
use Prim.Native.Nat.{ℕ, zero, suc, ◌+◌, ◌*◌, ◌/◌, ◌%◌, ◌^◌, ◌≤◌, ◌<◌}
use native.Mathlib.Omega.{arith}
use lib.Dec.{eqb}
use lib.ListN.{length, get_or, length-map}
use borrow.Author.Tests.{eqb-true, eq-eqb, ne_eqb, le-leb, lt-ltb}
use Rattle.model.specs.Words.{field, on, Descriptor, descriptor_in}
use Rattle.model.specs.Questions.{ask, segment_questions}
use Rattle.model.specs.Brackets.{Row, flag_bit, bracket_bits, with_brackets}
use Rattle.model.specs.Old.{old_descriptor_in, Way, from_old, to_old, rest_is_zero, rings_are, has_old_form, form_questions, renewed_word, old_word, converted_word, Answer, or_fails, words_answer, convert_words}
use Rattle.model.specs.Renewed.{RenewedByFields, OldByFields, RenewedPasses, SegmentConverts, SegmentRefused, way_back, ComesBack}
use Rattle.model.proofs.BranchLaws.{and_left, and_right, and_both, or_left, or_right}
use Rattle.model.proofs.WordLaws.{field_within_width}
use Rattle.model.proofs.QuestionLaws.{ask_yes}
use Rattle.formats.proofs.BracketLaws.{RowWithin}
use Rattle.formats.proofs.BracketingLaws.{fields_of_row}

-- A BIT of a word is its flag's
bit_is_flag : (n : ℕ) → n ≤ 1 → flag_bit n ≡ n
unfolding flag_bit
bit_is_flag zero h = refl
bit_is_flag (suc zero) h = refl
bit_is_flag (suc (suc n)) h = absurd (omega arith)

bit_is_on : (n : ℕ) → n ≤ 1 → not (eqb n 0) ≡ eqb n 1
bit_is_on zero h = refl
bit_is_on (suc zero) h = refl
bit_is_on (suc (suc n)) h = absurd (omega arith)

ring_by_bit : (n : ℕ) → n ≤ 1 → 4 * n ≡ cond (eqb n 1) 4 0
ring_by_bit zero h = refl
ring_by_bit (suc zero) h = refl
ring_by_bit (suc (suc n)) h = absurd (omega arith)

four_times : (u : ℕ) → 4 * u / 4 ≡ u
four_times u = omega arith

bit_within : (a w : ℕ) → field a 1 w ≤ 1
bit_within a w = let h = field_within_width a 1 w in omega arith

-- A RENEWED WORD is a descriptor with V on and GATE 0, set by a row with the old word's rings and flags
abbrev old_row : (word : ℕ) → Row
old_row w =
    let ring = 4 * field 43 1 w in
    record { first = 0; last = 0; r1 = ring; r2 = ring; r3 = ring; read = field 40 1 w; write = field 41 1 w; execute = field 42 1 w }

old_row_within : (w : ℕ) → RowWithin 1 (old_row w)
old_row_within w =
    let h = bit_within 43 w in
    record { in_order = omega arith; last_within = omega arith; r1_within = omega arith; r2_within = omega arith; r3_within = omega arith }

-- the three flags are three bits
flags_by_bits : (w : ℕ) → field 40 3 w ≡ field 40 1 w + 2 * field 41 1 w + 4 * field 42 1 w
unfolding field
flags_by_bits w =
    let e : w / 2 ^ 41 ≡ w / 2 ^ 40 / 2 = omega arith in
    let f : w / 2 ^ 42 ≡ w / 2 ^ 41 / 2 = omega arith in
    let g : w / 2 ^ 40 / 8 ≡ w / 2 ^ 42 / 2 = omega arith in
    three_bits (w / 2 ^ 40) (w / 2 ^ 41) (w / 2 ^ 42) e f g
  where
    three_bits : (x y z : ℕ) → y ≡ x / 2 → z ≡ y / 2 → x / 8 ≡ z / 2 → x % 2 ^ 3 ≡ x % 2 ^ 1 + 2 * (y % 2 ^ 1) + 4 * (z % 2 ^ 1)
    three_bits x y z p q s = omega arith

renewed_by_row : (w : ℕ) → renewed_word w ≡ with_brackets (old_row w) (w % 2 ^ 40 + 2 ^ 52)
unfolding renewed_word with_brackets bracket_bits
renewed_by_row w =
    by_bits (flag_bit (field 40 1 w)) (flag_bit (field 41 1 w)) (flag_bit (field 42 1 w)) (bit_is_flag _ (bit_within 40 w))
    (bit_is_flag _ (bit_within 41 w)) (bit_is_flag _ (bit_within 42 w))
  where
    ring : ℕ
    ring = 4 * field 43 1 w

    by_bits : (x y z : ℕ) → x ≡ field 40 1 w → y ≡ field 41 1 w → z ≡ field 42 1 w →
        w % 2 ^ 40 + 2 ^ 40 * ring + 2 ^ 43 * ring + 2 ^ 46 * ring + 2 ^ 49 * field 40 3 w + 2 ^ 52
        ≡ (w % 2 ^ 40 + 2 ^ 52) % 2 ^ 40 + 2 ^ 40 * (ring + 8 * ring + 64 * ring + 512 * x + 1024 * y + 2048 * z) + 2 ^ 52 * ((w % 2 ^ 40 + 2 ^ 52) / 2 ^ 52)
    by_bits x y z p q s = let e = flags_by_bits w in omega arith

-- the word that the row is put into
module _ (w : ℕ) where
  address_same : field 0 24 (w % 2 ^ 40 + 2 ^ 52) ≡ field 0 24 w
  unfolding field
  address_same = omega arith

  length_same : field 24 16 (w % 2 ^ 40 + 2 ^ 52) ≡ field 24 16 w
  unfolding field
  length_same = omega arith

  valid_on : field 52 1 (w % 2 ^ 40 + 2 ^ 52) ≡ 1
  unfolding field
  valid_on = omega arith

  gate_zero : field 53 11 (w % 2 ^ 40 + 2 ^ 52) ≡ 0
  unfolding field
  gate_zero = omega arith

pub renewed_by_fields : RenewedByFields
unfolding descriptor_in old_descriptor_in on
renewed_by_fields w =
    let x = fields_of_row 1 (old_row w) (w % 2 ^ 40 + 2 ^ 52) (old_row_within w) in
    let e = ap descriptor_in (renewed_by_row w) in
    let ring = ring_by_bit (field 43 1 w) (bit_within 43 w) in
    record {
      same_address = ap (λ d. d.address) e ∙ x.address_kept ∙ address_same w;
      same_length = ap (λ d. d.length) e ∙ x.length_kept ∙ length_same w;
      same_read = ap (λ d. d.read) e ∙ x.read_set ∙ bit_is_on _ (bit_within 40 w);
      same_write = ap (λ d. d.write) e ∙ x.write_set ∙ bit_is_on _ (bit_within 41 w);
      same_execute = ap (λ d. d.execute) e ∙ x.execute_set ∙ bit_is_on _ (bit_within 42 w);
      r1_by_user = ap (λ d. d.r1) e ∙ x.r1_set ∙ ring;
      r2_by_user = ap (λ d. d.r2) e ∙ x.r2_set ∙ ring;
      r3_by_user = ap (λ d. d.r3) e ∙ x.r3_set ∙ ring;
      is_valid = ap (λ d. d.valid) e ∙ x.valid_kept ∙ eq-eqb _ _ (valid_on w);
      no_gate = ap (λ d. d.gate) e ∙ x.gate_kept ∙ gate_zero w;
    }

-- 12 and 13
pub renewed_passes : RenewedPasses
unfolding segment_questions ask
renewed_passes n b s w h g =
    let x = renewed_by_fields w in
    rw (lt-ltb s b.length h, x.is_valid, le-leb _ _ g, le-leb _ _ (same_order x.r1_by_user x.r2_by_user), le-leb _ _ (same_order x.r2_by_user x.r3_by_user))
  where
    same_order : {i j k : ℕ} → i ≡ k → j ≡ k → i ≤ j
    same_order p q = omega arith

-- AN OLD FORM
pub record OldForm (d : Descriptor) : Type 0 where
  pub valid_on : d.valid ≡ true
  pub no_gate : d.gate ≡ 0
  pub user : ℕ
  pub user_within : user ≤ 1
  pub r1_is : d.r1 ≡ 4 * user
  pub r2_is : d.r2 ≡ 4 * user
  pub r3_is : d.r3 ≡ 4 * user

rings_read : (n : ℕ) (d : Descriptor) → rings_are n d ≡ true → (d.r1 ≡ n) × (d.r2 ≡ n) × (d.r3 ≡ n)
unfolding rings_are
rings_read n d e =
    let x = and_right (eqb d.r1 n) _ e in
    (eqb-true _ _ (and_left (eqb d.r1 n) _ e), eqb-true _ _ (and_left (eqb d.r2 n) _ x), eqb-true _ _ (and_right (eqb d.r2 n) _ x))

pub has_form : (d : Descriptor) → has_old_form d ≡ true → OldForm d
unfolding has_old_form
has_form d e =
    let x = and_right d.valid _ e in
    by_rings (and_left d.valid _ e) (eqb-true _ _ (and_left (eqb d.gate 0) _ x)) (rings_are 4 d) refl (and_right (eqb d.gate 0) _ x)
  where
    with_user : d.valid ≡ true → d.gate ≡ 0 → (n u : ℕ) → n ≡ 4 * u → u ≤ 1 → (d.r1 ≡ n) × (d.r2 ≡ n) × (d.r3 ≡ n) → OldForm d
    with_user v g n u m h x =
        record { valid_on = v; no_gate = g; user = u; user_within = h; r1_is = x.0 ∙ m; r2_is = x.1 ∙ m; r3_is = x.2 ∙ m }

    by_rings : d.valid ≡ true → d.gate ≡ 0 → (b : Bool) → rings_are 4 d ≡ b → (b || rings_are 0 d) ≡ true → OldForm d
    by_rings v g true q e = with_user v g 4 1 (omega arith) (omega arith) (rings_read 4 d q)
    by_rings v g false q e = with_user v g 0 0 (omega arith) (omega arith) (rings_read 0 d e)

-- AN OLD WORD, of ADDRESS and LENGTH, three flags and user
module _ (l f u : ℕ) (l_within : l < 2 ^ 40) (f_within : f ≤ 7) (u_within : u ≤ 1) where
  abbrev together : ℕ
  together = l + 2 ^ 40 * f + 2 ^ 43 * u

  low_of : together % 2 ^ 40 ≡ l
  low_of = omega arith

  flags_of : together / 2 ^ 40 % 2 ^ 3 ≡ f
  flags_of = omega arith

  user_of : together / 2 ^ 43 % 2 ^ 1 ≡ u
  user_of = omega arith

  rest_of : together / 2 ^ 44 % 2 ^ 20 ≡ 0
  rest_of = omega arith

-- a word's fields by its lowest 40 bits and by its flags
module _ (w x : ℕ) (e : w % 2 ^ 40 ≡ x % 2 ^ 40) where
  address_by_low : field 0 24 w ≡ field 0 24 x
  unfolding field
  address_by_low = omega arith

  length_by_low : field 24 16 w ≡ field 24 16 x
  unfolding field
  length_by_low = omega arith

abbrev FlagBits : (a w : ℕ) → Type 0
FlagBits a w = (field a 1 w ≡ field a 3 w % 2) × (field (suc a) 1 w ≡ field a 3 w / 2 % 2) × (field (suc (suc a)) 1 w ≡ field a 3 w / 4 % 2)

old_flag_bits : (w : ℕ) → FlagBits 40 w
unfolding field
old_flag_bits w = (omega arith, omega arith, omega arith)

today_flag_bits : (w : ℕ) → FlagBits 49 w
unfolding field
today_flag_bits w = (omega arith, omega arith, omega arith)

module _ (w : ℕ) where
  flags_within : field 49 3 w ≤ 7
  flags_within = let h = field_within_width 49 3 w in omega arith

  user_within : field 40 3 w / 4 ≤ 1
  user_within = let h = field_within_width 40 3 w in omega arith

  old_low : old_word w % 2 ^ 40 ≡ w % 2 ^ 40
  unfolding old_word
  old_low = low_of (w % 2 ^ 40) _ _ (omega arith) flags_within user_within

  old_flags : field 40 3 (old_word w) ≡ field 49 3 w
  unfolding old_word field
  old_flags = flags_of (w % 2 ^ 40) _ _ (omega arith) flags_within user_within

  old_user : field 43 1 (old_word w) ≡ field 40 3 w / 4
  unfolding old_word field
  old_user = user_of (w % 2 ^ 40) _ _ (omega arith) flags_within user_within

  old_rest : field 44 20 (old_word w) ≡ 0
  unfolding old_word field
  old_rest = rest_of (w % 2 ^ 40) _ _ (omega arith) flags_within user_within

pub old_by_fields : OldByFields
unfolding form_questions descriptor_in old_descriptor_in on
old_by_fields w e =
    let x = has_form (descriptor_in w) (ask_yes _ _ _ e).0 in
    let o = old_word w in
    let u = x.user in
    let user : field 43 1 o ≡ u = old_user w ∙ ap (λ n. n / 4) x.r1_is ∙ four_times u in
    let ring : 4 * u ≡ cond (eqb (field 43 1 o) 1) 4 0 = ring_by_bit u x.user_within ∙ ap (λ n. cond (eqb n 1) 4 0) (sym user) in
    let same = old_flags w in
    record {
      same_address = sym (address_by_low o w (old_low w));
      same_length = sym (length_by_low o w (old_low w));
      same_read = ap (λ n. eqb n 1) ((today_flag_bits w).0 ∙ ap (λ n. n % 2) (sym same) ∙ sym (old_flag_bits o).0);
      same_write = ap (λ n. eqb n 1) ((today_flag_bits w).1 ∙ ap (λ n. n / 2 % 2) (sym same) ∙ sym (old_flag_bits o).1);
      same_execute = ap (λ n. eqb n 1) ((today_flag_bits w).2 ∙ ap (λ n. n / 4 % 2) (sym same) ∙ sym (old_flag_bits o).2);
      r1_by_user = x.r1_is ∙ ring;
      r2_by_user = x.r2_is ∙ ring;
      r3_by_user = x.r3_is ∙ ring;
      is_valid = x.valid_on;
      no_gate = x.no_gate;
    }

-- A WORD AND BACK. Of a renewed word
module _ (l r f : ℕ) (l_within : l < 2 ^ 40) (r_within : r ≤ 7) (f_within : f ≤ 7) where
  abbrev renewed : ℕ
  renewed = l + 2 ^ 40 * r + 2 ^ 43 * r + 2 ^ 46 * r + 2 ^ 49 * f + 2 ^ 52

  renewed_low_of : renewed % 2 ^ 40 ≡ l
  renewed_low_of = omega arith

  renewed_ring_of : renewed / 2 ^ 40 % 2 ^ 3 ≡ r
  renewed_ring_of = omega arith

  renewed_flags_of : renewed / 2 ^ 49 % 2 ^ 3 ≡ f
  renewed_flags_of =
      let q : renewed / 2 ^ 49 ≡ f + 8 = omega arith in
      let g : (f + 8) % 2 ^ 3 ≡ f = omega arith in
      ap (λ n. n % 2 ^ 3) q ∙ g

old_again : (w : ℕ) → w < 2 ^ 64 → form_questions from_old w ≡ 0 → old_word (renewed_word w) ≡ w
unfolding form_questions rest_is_zero renewed_word old_word field
old_again w h e =
    let z : w / 2 ^ 44 % 2 ^ 20 ≡ 0 = eqb-true _ _ (ask_yes _ _ _ e).0 in
    let small : w < 2 ^ 44 = omega arith in
    let l = w % 2 ^ 40 in
    let r = 4 * (w / 2 ^ 43 % 2 ^ 1) in
    let f = w / 2 ^ 40 % 2 ^ 3 in
    put_together (renewed_low_of l r f (omega arith) (omega arith) (omega arith)) (renewed_flags_of l r f (omega arith) (omega arith) (omega arith))
    (renewed_ring_of l r f (omega arith) (omega arith) (omega arith)) small
  where
    put_together : {x y z : ℕ} → x ≡ w % 2 ^ 40 → y ≡ w / 2 ^ 40 % 2 ^ 3 → z ≡ 4 * (w / 2 ^ 43 % 2 ^ 1) → w < 2 ^ 44 → x + 2 ^ 40 * y + 2 ^ 43 * (z / 4) ≡ w
    put_together p q s small = omega arith

-- a word of 64 bits by its fields
by_its_fields : (w : ℕ) → w < 2 ^ 64 →
    w ≡ w % 2 ^ 40 + 2 ^ 40 * field 40 3 w + 2 ^ 43 * field 43 3 w + 2 ^ 46 * field 46 3 w + 2 ^ 49 * field 49 3 w + 2 ^ 52 * field 52 1 w + 2 ^ 53 * field 53 11 w
unfolding field
by_its_fields w h =
    let e : w ≡ w % 2 ^ 40 + 2 ^ 40 * (w / 2 ^ 40) = omega arith in
    let f : w / 2 ^ 40 ≡ w / 2 ^ 40 % 2 ^ 3 + 2 ^ 3 * (w / 2 ^ 43) = omega arith in
    let g : w / 2 ^ 43 ≡ w / 2 ^ 43 % 2 ^ 3 + 2 ^ 3 * (w / 2 ^ 46) = omega arith in
    let k : w / 2 ^ 46 ≡ w / 2 ^ 46 % 2 ^ 3 + 2 ^ 3 * (w / 2 ^ 49) = omega arith in
    let n : w / 2 ^ 49 ≡ w / 2 ^ 49 % 2 ^ 3 + 2 ^ 3 * (w / 2 ^ 52) = omega arith in
    let t : w / 2 ^ 52 ≡ w / 2 ^ 52 % 2 ^ 1 + 2 * (w / 2 ^ 53) = omega arith in
    let v : w / 2 ^ 53 ≡ w / 2 ^ 53 % 2 ^ 11 = omega arith in
    put_together (w % 2 ^ 40) (w / 2 ^ 40 % 2 ^ 3) (w / 2 ^ 43 % 2 ^ 3) (w / 2 ^ 46 % 2 ^ 3) (w / 2 ^ 49 % 2 ^ 3) (w / 2 ^ 52 % 2 ^ 1) e f g k n t v
  where
    put_together : (l p q r s t : ℕ) {a b c d x y u : ℕ} → w ≡ l + 2 ^ 40 * a → a ≡ p + 2 ^ 3 * b → b ≡ q + 2 ^ 3 * c → c ≡ r + 2 ^ 3 * d → d ≡ s + 2 ^ 3 * x → x ≡ t + 2 * y → y ≡ u →
        w ≡ l + 2 ^ 40 * p + 2 ^ 43 * q + 2 ^ 46 * r + 2 ^ 49 * s + 2 ^ 52 * t + 2 ^ 53 * u
    put_together l p q r s t e f g k n h v = omega arith

renewed_again : (w : ℕ) → w < 2 ^ 64 → form_questions to_old w ≡ 0 → renewed_word (old_word w) ≡ w
unfolding form_questions renewed_word descriptor_in on
renewed_again w h e =
    let x = has_form (descriptor_in w) (ask_yes _ _ _ e).0 in
    let u = x.user in
    put_together u (old_low w) (old_user w ∙ ap (λ n. n / 4) x.r1_is ∙ four_times u) (old_flags w) x.r1_is x.r2_is x.r3_is (eqb-true _ _ x.valid_on) x.no_gate (by_its_fields w h)
  where
    put_together : (u : ℕ) {l y f a b c v g : ℕ} → l ≡ w % 2 ^ 40 → y ≡ u → f ≡ field 49 3 w → a ≡ 4 * u → b ≡ 4 * u → c ≡ 4 * u → v ≡ 1 → g ≡ 0 →
        w ≡ w % 2 ^ 40 + 2 ^ 40 * a + 2 ^ 43 * b + 2 ^ 46 * c + 2 ^ 49 * field 49 3 w + 2 ^ 52 * v + 2 ^ 53 * g →
        l + 2 ^ 40 * (4 * y) + 2 ^ 43 * (4 * y) + 2 ^ 46 * (4 * y) + 2 ^ 49 * f + 2 ^ 52 ≡ w
    put_together u p q s ra rb rc rv rg t = omega arith

-- what is asked of a word on its way back
rings_are_so : (n : ℕ) (d : Descriptor) → d.r1 ≡ n → d.r2 ≡ n → d.r3 ≡ n → rings_are n d ≡ true
unfolding rings_are
rings_are_so n d p q r = and_both (eqb d.r1 n) _ (eq-eqb _ _ p) (and_both (eqb d.r2 n) _ (eq-eqb _ _ q) (eq-eqb _ _ r))

renewed_has_form : (w : ℕ) → form_questions to_old (renewed_word w) ≡ 0
unfolding form_questions has_old_form ask
renewed_has_form w =
    let x = renewed_by_fields w in
    let d = descriptor_in (renewed_word w) in
    ap (λ b. ask b 57 0)
    (and_both d.valid _ x.is_valid
    (and_both (eqb d.gate 0) _ (eq-eqb _ _ x.no_gate) (by_user d (old_descriptor_in w).user x.r1_by_user x.r2_by_user x.r3_by_user)))
  where
    by_user : (d : Descriptor) (u : Bool) → d.r1 ≡ cond u 4 0 → d.r2 ≡ cond u 4 0 → d.r3 ≡ cond u 4 0 → (rings_are 4 d || rings_are 0 d) ≡ true
    by_user d true p q r = or_left (rings_are 4 d) _ (rings_are_so 4 d p q r)
    by_user d false p q r = or_right (rings_are 4 d) _ (rings_are_so 0 d p q r)

old_rest_is_zero : (w : ℕ) → form_questions from_old (old_word w) ≡ 0
unfolding form_questions rest_is_zero ask
old_rest_is_zero w = rw (eq-eqb _ _ (old_rest w))

word_comes_back : (y : Way) (w : ℕ) → w < 2 ^ 64 → form_questions y w ≡ 0 →
    (form_questions (way_back y) (converted_word y w) ≡ 0) × (converted_word (way_back y) (converted_word y w) ≡ w)
unfolding way_back converted_word
word_comes_back from_old w h e = (renewed_has_form w, old_again w h e)
word_comes_back to_old w h e = (old_rest_is_zero w, renewed_again w h e)

-- A SEGMENT that has a yes to all
or_fails_not : (n k : ℕ) (x : Answer) → (or_fails n k x).number ≡ 0 → (n ≡ 0) × (x.number ≡ 0)
unfolding or_fails
or_fails_not zero k x e = (refl, e)
or_fails_not (suc n) k x e = absurd (let z : suc n ≡ 0 = e in omega arith)

passed_word : (n k : ℕ) (x : Answer) → n ≡ 0 → or_fails n k x ≡ x
unfolding or_fails
passed_word n k x e = ap (λ z. or_fails z k x) e

each_passes : (y : Way) (k : ℕ) (ws : List ℕ) → (words_answer y k ws).number ≡ 0 → (i : ℕ) → i < length ws → form_questions y (get_or ws i 0) ≡ 0
unfolding words_answer
each_passes y k [] e i h = absurd (omega arith)
each_passes y k (w ∷ ws) e zero h = (or_fails_not (form_questions y w) k _ e).0
each_passes y k (w ∷ ws) e (suc i) h = each_passes y (suc k) ws (or_fails_not (form_questions y w) k _ e).1 i (omega arith)

no_index : (y : Way) (k : ℕ) (ws : List ℕ) → (words_answer y k ws).number ≡ 0 → (words_answer y k ws).index ≡ 0
unfolding words_answer
no_index y k [] e = refl
no_index y k (w ∷ ws) e =
    let x = or_fails_not (form_questions y w) k _ e in ap (λ a. a.index) (passed_word (form_questions y w) k _ x.0) ∙ no_index y (suc k) ws x.1

each_mapped : (f : ℕ → ℕ) (ws : List ℕ) (k : ℕ) → k < length ws → get_or (map f ws) k 0 ≡ f (get_or ws k 0)
each_mapped f [] k h = absurd (omega arith)
each_mapped f (w ∷ ws) zero h = refl
each_mapped f (w ∷ ws) (suc k) h = each_mapped f ws k (omega arith)

pub all_written : (y : Way) (ws : List ℕ) → (words_answer y 0 ws).number ≡ 0 → (convert_words y ws).words ≡ map (converted_word y) ws
unfolding convert_words
all_written y ws e = rw (eq-eqb (words_answer y 0 ws).number 0 e)

pub segment_converts : SegmentConverts
unfolding convert_words
segment_converts y ws e =
    record {
      no_index = no_index y 0 ws e;
      as_many = ap length (all_written y ws e) ∙ length-map ws (converted_word y);
      each_passes = each_passes y 0 ws e;
      each_word = λ k h. ap (λ xs. get_or xs k 0) (all_written y ws e) ∙ each_mapped (converted_word y) ws k h;
    }

-- one of which a word fails
record FailsAt (y : Way) (k : ℕ) (ws : List ℕ) : Type 0 where
  place : ℕ
  index_is : (words_answer y k ws).index ≡ k + place
  within : place < length ws
  it_fails : form_questions y (get_or ws place 0) ≡ (words_answer y k ws).number
  none_below : (i : ℕ) → i < place → form_questions y (get_or ws i 0) ≡ 0

fails_at : (y : Way) (k : ℕ) (ws : List ℕ) → ((words_answer y k ws).number ≡ 0 → ⊥) → FailsAt y k ws
unfolding words_answer or_fails
fails_at y k [] d = absurd (d refl)
fails_at y k (w ∷ ws) d = by_answer (λ z. fails_at y (suc k) ws z) (form_questions y w) refl
  where
    by_answer : (((words_answer y (suc k) ws).number ≡ 0 → ⊥) → FailsAt y (suc k) ws) → (n : ℕ) → form_questions y w ≡ n → FailsAt y k (w ∷ ws)
    by_answer later zero e =
        let same = passed_word (form_questions y w) k (words_answer y (suc k) ws) e in
        let x = later (λ z. d (ap (λ a. a.number) same ∙ z)) in
        record {
          place = suc x.place;
          index_is = ap (λ a. a.index) same ∙ x.index_is ∙ one_further x.place;
          within = let h = x.within in omega arith;
          it_fails = x.it_fails ∙ sym (ap (λ a. a.number) same);
          none_below = below e x.none_below;
        }
      where
        one_further : (p : ℕ) → suc k + p ≡ k + suc p
        one_further p = omega arith

        below : form_questions y w ≡ 0 → {p : ℕ} → ((i : ℕ) → i < p → form_questions y (get_or ws i 0) ≡ 0) → (i : ℕ) → i < suc p → form_questions y (get_or (w ∷ ws) i 0) ≡ 0
        below e f zero h = e
        below e f (suc i) h = f i (omega arith)
    by_answer later (suc n) e =
        let here : or_fails (form_questions y w) k (words_answer y (suc k) ws) ≡ record { number = suc n; index = k } = ap (λ z. or_fails z k (words_answer y (suc k) ws)) e in
        record {
          place = 0;
          index_is = ap (λ a. a.index) here ∙ nothing_more;
          within = omega arith;
          it_fails = e ∙ sym (ap (λ a. a.number) here);
          none_below = λ i h. absurd (omega arith);
        }
      where
        nothing_more : k ≡ k + 0
        nothing_more = omega arith

pub segment_refused : SegmentRefused
unfolding convert_words
segment_refused y ws d =
    let x = fails_at y 0 ws d in
    let same : (words_answer y 0 ws).index ≡ x.place = let e = x.index_is in omega arith in
    record {
      nothing_written = rw (ne_eqb (words_answer y 0 ws).number 0 d);
      index_within = let h = x.within in omega arith;
      it_fails = ap (λ i. form_questions y (get_or ws i 0)) same ∙ x.it_fails;
      none_below = λ k h. x.none_below k (omega arith);
    }

-- ITS NUMBERS are small
question_within : (y : Way) (w : ℕ) → form_questions y w ≤ 57
unfolding form_questions ask
question_within from_old w = by_test (rest_is_zero w)
  where
    by_test : (b : Bool) → ask b 56 0 ≤ 57
    by_test true = omega arith
    by_test false = omega arith
question_within to_old w = by_test (has_old_form (descriptor_in w))
  where
    by_test : (b : Bool) → ask b 57 0 ≤ 57
    by_test true = omega arith
    by_test false = omega arith

answer_within : (y : Way) (k : ℕ) (ws : List ℕ) → ((words_answer y k ws).number ≤ 57) × ((words_answer y k ws).index ≤ k + length ws)
unfolding words_answer or_fails
answer_within y k [] = (omega arith, omega arith)
answer_within y k (w ∷ ws) = by_answer (form_questions y w) (question_within y w) (answer_within y (suc k) ws)
  where
    by_answer : (n : ℕ) {x : Answer} → n ≤ 57 → (x.number ≤ 57) × (x.index ≤ suc k + length ws) →
        ((or_fails n k x).number ≤ 57) × ((or_fails n k x).index ≤ k + suc (length ws))
    by_answer zero h g = let i = g.1 in (g.0, omega arith)
    by_answer (suc n) h g = (h, omega arith)

pub conversion_within : (y : Way) (ws : List ℕ) → ((convert_words y ws).answer.number ≤ 57) × ((convert_words y ws).answer.index ≤ length ws)
unfolding convert_words
conversion_within y ws = let x = answer_within y 0 ws in let h = x.1 in (x.0, omega arith)

-- BOTH WAYS ROUND
module _ (y : Way) where
  answer_back : (k : ℕ) (ws : List ℕ) → ((i : ℕ) → get_or ws i 0 < 2 ^ 64) → ((i : ℕ) → i < length ws → form_questions y (get_or ws i 0) ≡ 0) →
      words_answer (way_back y) k (map (converted_word y) ws) ≡ record { number = 0; index = 0 }
  unfolding words_answer
  answer_back k [] h g = refl
  answer_back k (w ∷ ws) h g =
      passed_word _ k _ (word_comes_back y w (h 0) (g 0 (omega arith))).0 ∙ answer_back (suc k) ws (λ i. h (suc i)) (λ i l. g (suc i) (omega arith))

  words_back : (ws : List ℕ) → ((i : ℕ) → get_or ws i 0 < 2 ^ 64) → ((i : ℕ) → i < length ws → form_questions y (get_or ws i 0) ≡ 0) →
      map (converted_word (way_back y)) (map (converted_word y) ws) ≡ ws
  words_back [] h g = refl
  words_back (w ∷ ws) h g =
      let x = (word_comes_back y w (h 0) (g 0 (omega arith))).1 in
      let xs = words_back ws (λ i. h (suc i)) (λ i l. g (suc i) (omega arith)) in
      λ i. x i ∷ xs i

pub comes_back : ComesBack
unfolding convert_words
comes_back y ws h e =
    let g = each_passes y 0 ws e in
    let xs = map (converted_word y) ws in
    let a = answer_back y 0 ws h g in
    let z : (words_answer (way_back y) 0 xs).number ≡ 0 = ap (λ x. x.number) a in
    ap (convert_words (way_back y)) (all_written y ws e)
    ∙ (λ i. record { answer = a i; words = (all_written (way_back y) xs z ∙ words_back y ws h g) i })
