-- A frame's words, and the frame written word by word. Assumes nothing.
use Rattle.std.proofs.Common.{◌≡◌, ℕ, zero, suc, ◌+◌, ◌*◌, ◌-◌, ◌≤◌, ◌<◌, Bool, true, false, true≢false, List, [], ◌∷◌, map, length, get_or, set, take, Option, Some, None, refl, sym, ap, ◌∙◌, add-one, arith}
use Rattle.std.proofs.Math.Seq.{take-length}
use Rattle.model.specs.Words as Words
use Rattle.model.specs.Words.{pointer_word}
use Rattle.model.specs.Registers.{Registers, Delivery, machine, dbr_word, zero_pointer}
use Rattle.model.specs.Questions.{all, pointer_in_range}
use Rattle.model.specs.Program.{descriptor_of}
use Rattle.model.specs.Deliver.{frame, with_words, saved}
use Rattle.model.proofs.ListLaws.{all_get}
use Rattle.model.proofs.WordLaws.{in_range_within}
use Rattle.words.specs.View.{as_pointer, PointerWithin}
use Rattle.words.specs.declared.descriptor.Descriptor.{Descriptor}
use Rattle.words.specs.declared.pointer.Pointer.{Pointer}
use Rattle.segments.specs.Translation.{descriptor_word}
use Rattle.state.specs.View.{pointers_in, as_pointers, pr_of, as_registers, as_machine}
use Rattle.state.specs.declared.Core.{Core}
use Rattle.operations.proofs.RegisterLaws.{pr_within}
use Rattle.frames.specs.Frame.{Savable, SavesIn, saves, Delivers}

-- A PR'S WORD
mapped_at : (ps : List Words.Pointer) (k : ℕ) → k < length ps → get_or (map pointer_word ps) k 0 ≡ pointer_word (get_or ps k zero_pointer)
mapped_at [] k h = absurd (omega arith)
mapped_at (p ∷ ps) zero h = refl
mapped_at (p ∷ ps) (suc k) h = mapped_at ps k (omega arith)

further : (xs : List ℕ) (a b d e f : ℕ) (i : ℕ) → 5 ≤ i → get_or (a ∷ b ∷ d ∷ e ∷ f ∷ xs) i 0 ≡ get_or xs (i - 5) 0
further xs a b d e f i h = ap (λ k. get_or (a ∷ b ∷ d ∷ e ∷ f ∷ xs) k 0) (let z : i ≡ suc (suc (suc (suc (suc (i - 5))))) = omega arith in z)

module _ (c : Core) (prs : List ℕ) (n : ℕ) (t : Words.Pointer) (i w : ℕ) where
  -- any other is a PR's
  pub word_of_pr : (i ≡ 0 → ⊥) → (i ≡ 1 → ⊥) → (i ≡ 2 → ⊥) → (i ≡ 3 → ⊥) → (i ≡ 4 → ⊥) → i < 13 → (p : Words.Pointer) → p ≡ pr_of prs (i - 5) → w ≡ pointer_word p →
      w ≡ get_or (frame n t (as_registers c prs)) i 0
  unfolding frame pr_of as_pointers pointers_in
  word_of_pr x0 x1 x2 x3 x4 h p e f =
      f ∙ ap pointer_word e ∙ sym (mapped_at (as_pointers prs) (i - 5) (omega arith))
      ∙ sym (further (map pointer_word (as_pointers prs)) n (pointer_word t) c.a (dbr_word (record { address = c.dbr.address; length = c.dbr.length })) (pointer_word (as_pointer c.ipr)) i (omega arith))

pub ruleset pr_words = (word_of_pr, pr_within)

-- THE FRAME WRITTEN, one word more each turn
one_word_more : (a i : ℕ) (ws m : List ℕ) → i < length ws → with_words a (take (suc i) ws) m ≡ set (with_words a (take i ws) m) (a + i) (get_or ws i 0)
unfolding with_words
one_word_more a i [] m h = absurd (omega arith)
one_word_more a zero (w ∷ ws) m h = ap (λ x. set m x w) (let z : a ≡ a + 0 = omega arith in z)
one_word_more a (suc i) (w ∷ ws) m h =
    one_word_more (suc a) i ws (set m a w) (omega arith)
    ∙ ap (λ x. set (with_words (suc a) (take i ws) (set m a w)) x (get_or ws i 0)) (let z : suc a + i ≡ a + suc i = omega arith in z)

frame_length : (n : ℕ) (t : Words.Pointer) (c : Core) (prs : List ℕ) → length (frame n t (as_registers c prs)) ≡ 13
unfolding frame as_pointers pointers_in
frame_length n t c prs = refl

module _ (c : Core) (prs : List ℕ) (n : ℕ) (t : Words.Pointer) (a : ℕ) (m : List ℕ) where
  pub nothing_written : m ≡ with_words a (take 0 (frame n t (as_registers c prs))) m
  unfolding with_words
  nothing_written = refl

  pub written_more : (i w : ℕ) (k u : List ℕ) → i < 13 → k ≡ with_words a (take i (frame n t (as_registers c prs))) m →
      w ≡ get_or (frame n t (as_registers c prs)) i 0 → u ≡ set k (a + i) w → u ≡ with_words a (take (i + 1) (frame n t (as_registers c prs))) m
  written_more i w k u h e f g =
      g ∙ rw (e, f, add-one) (sym (one_word_more a i (frame n t (as_registers c prs)) m (let z = frame_length n t c prs in omega (arith, h, z))))

  pub all_written : (i : ℕ) (k : List ℕ) → i ≤ 13 → 13 ≤ i → k ≡ with_words a (take i (frame n t (as_registers c prs))) m → k ≡ with_words a (frame n t (as_registers c prs)) m
  all_written i k h l e =
      let z : i ≡ length (frame n t (as_registers c prs)) = let y = frame_length n t c prs in omega (arith, h, l, y) in
      e ∙ ap (λ ws. with_words a ws m) (ap (λ j. take j (frame n t (as_registers c prs))) z ∙ take-length (frame n t (as_registers c prs)))

pub ruleset frame_writes = (nothing_written, written_more, all_written)

-- DELIVERED OR NOT
module _ (v : Delivery) (c : Core) (prs m : List ℕ) (n : ℕ) (t : Words.Pointer) (y : Option Descriptor) (s : saves v c m y) where
  pub not_delivered : y ≡ None → Delivers v n t (as_machine c prs m) false m
  not_delivered e =
      let h = rw e at s in
      record { same = sym (h (as_pointers prs)); written = λ q. absurd (true≢false (sym q)); kept = λ _. refl }

  pub is_delivered : (d : Descriptor) (start : ℕ) (u : List ℕ) → y ≡ Some d → start ≡ (Words.descriptor_in d.0).address → u ≡ with_words start (frame n t (as_registers c prs)) m →
      Delivers v n t (as_machine c prs m) true u
  unfolding saved machine descriptor_of descriptor_word
  is_delivered d start u g e f =
      let h = rw g at s in
      record {
        same = sym (h.delivers_here (as_pointers prs));
        written = λ _. f ∙ ap (λ a. with_words a (frame n t (as_registers c prs)) m) (e ∙ ap (λ w. (Words.descriptor_in w).address) h.same);
        kept = λ q. absurd (true≢false q);
      }

-- the save segment has room for the frame
pub room_for_frame : (v : Delivery) (c : Core) (m : List ℕ) (y : Option Descriptor) (d : Descriptor) (start : ℕ) → saves v c m y → y ≡ Some d → start ≡ (Words.descriptor_in d.0).address →
    start + 13 ≤ length m
room_for_frame v c m y d start s g e = let h = (rw g at s).fits in omega (arith, h, e)

pub ruleset deliveries = (not_delivered, is_delivered, room_for_frame)
