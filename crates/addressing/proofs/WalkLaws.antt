-- A walk along a chain that is lent the descriptors' own words: one law for each answer of the code. Assumes nothing.
use Rattle.std.proofs.Common.{◌≡◌, Bool, true, false, List, ℕ, suc, ◌+◌, ◌-◌, ◌≤◌, ◌<◌, length, get_or, sym, ap, ◌∙◌, arith, ltb-true, le-ltb}
use Rattle.model.specs.Words as Words
use Rattle.model.specs.Words.{Pointer, pointer_in, pointer_word, indirect_in, descriptor_in}
use Rattle.model.specs.Registers.{with_ring_at_least}
use Rattle.model.specs.Questions.{ask, then_ask, segment_questions}
use Rattle.model.specs.Step.{next_address}
use Rattle.model.proofs.WordLaws.{pointer_word_reads_back}
use Rattle.model.proofs.QuestionLaws.{ask_yes}
use Rattle.words.specs.declared.descriptor.Descriptor.{Descriptor}
use Rattle.questions.specs.declared.fault.Fault.{Fault}
use Rattle.questions.specs.Numbers.{fault_number}
use Rattle.questions.proofs.NumberLaws.{fault_from_one}
use Rattle.segments.specs.Translation.{descriptor_answer, word_through}
use Rattle.segments.proofs.TranslateLaws as Translate
use Rattle.segments.proofs.TranslateLaws.{right_fits, then_ask_no}
use Rattle.addressing.specs.Address.{lent, segment_answer, word_answer, pointer_answer, pointer_leads, Formed, bad, good, through, tpr_of, Right, KeptRight}
use Rattle.addressing.specs.declared.Kept.{Kept}
use Rattle.addressing.specs.declared.PassedSegment.{PassedSegment}
use Rattle.addressing.proofs.ChainLaws.{through_off, through_none_left, through_refused, through_next}

-- 11 TO 14 of a segment
module _ (ws : List ℕ) (n s : ℕ) where
  pub look_11 : length ws ≤ s → segment_answer (length ws) n s (get_or ws s 0) ≡ 11
  unfolding segment_answer segment_questions ask
  look_11 h = simp (le-ltb _ _ h)

  pub look_no : (k d : ℕ) → s < length ws → d ≡ get_or ws s 0 → k ≡ descriptor_answer n d → segment_answer (length ws) n s (get_or ws s 0) ≡ k
  unfolding segment_answer
  look_no k d h e f = rw (← e) (Translate.segment_answer n _ s d h ∙ sym f)

  -- one that is kept has passed, and is put first
  module _ (k : Kept) (h : KeptRight ws n k) where
    pub first_passes : s ≡ k.first.number → s ≤ 4095 → Right ws n s k.first.descriptor.0
    first_passes e f = rw e (h.first (rw (← e) f))

    pub second_passes : s ≡ k.second.number → s ≤ 4095 → Right ws n s k.second.descriptor.0
    second_passes e f = rw e (h.second (rw (← e) f))

    pub kept_after : (p : PassedSegment) → s ≡ p.number → Right ws n s p.descriptor.0 → KeptRight ws n (record { first = p; second = k.first })
    kept_after p e r = record { first = λ _. rw e at r; second = h.first }

-- THEN 15 AND 22
module _ (ws : List ℕ) (n : ℕ) (t : Pointer) (e : Fault) where
  abbrev both : ℕ
  both = then_ask (segment_answer (length ws) n t.segment (get_or ws t.segment 0)) (word_answer t (descriptor_in (get_or ws t.segment 0)))

  pub segment_refuses : segment_answer (length ws) n t.segment (get_or ws t.segment 0) ≡ fault_number e → both ≡ fault_number e
  segment_refuses h = rw h (then_ask_no (fault_number e) _ (fault_from_one e))

  pub word_refuses : (d : ℕ) → Right ws n t.segment d → fault_number e ≡ word_answer t (descriptor_in d) → both ≡ fault_number e
  unfolding then_ask
  word_refuses d r h = rw (look_no ws n t.segment 0 d r.inside r.same (sym r.passes), ← r.same, h)

-- 15 has passed
pub word_inside : (t : Pointer) (d : Words.Descriptor) → word_answer t d ≡ 0 → t.word < d.length
unfolding word_answer
word_inside t d z = ltb-true _ _ (ask_yes _ 14 _ z).0

-- THE LOOP begins with the first pointer's word, and nothing kept
pub at_start : (ws m : List ℕ) (w n s i : ℕ) → let t : Pointer = record { ring = n; segment = s; word = i } in w ≡ pointer_word t → n ≤ 7 → s ≤ 4095 → i ≤ 65535 →
    through 64 true (lent ws) m (tpr_of w n) ≡ through 64 true (lent ws) m t
unfolding tpr_of
at_start ws m w n s i e x y z =
    let t : Pointer = record { ring = n; segment = s; word = i } in
    let back = ap pointer_in e ∙ pointer_word_reads_back t (record { ring_within = x; segment_within = y; word_within = z }) in
    ap (λ (p : Pointer). through 64 true (lent ws) m (record { ring = n; segment = p.segment; word = p.word })) back

pub none_kept : (ws : List ℕ) (n : ℕ) (d e : Descriptor) → KeptRight ws n (record { first = record { number = 4096; descriptor = d }; second = record { number = 4096; descriptor = e } })
none_kept ws n d e = record { first = λ h. absurd (omega arith); second = λ h. absurd (omega arith) }

-- a segment that has passed lies within memory
pub right_within : (ws : List ℕ) (n s d : ℕ) → Right ws n s d → (descriptor_in d).address + (descriptor_in d).length ≤ n
right_within ws n s d r = right_fits n d r.passes

carried : (t : Pointer) (d : Words.Descriptor) (w n : ℕ) → n ≡ (next_address t d w).ring → tpr_of w n ≡ next_address t d w
unfolding tpr_of next_address with_ring_at_least
carried t d w n e = ap (λ n. record { ring = n; segment = (pointer_in w).segment; word = (pointer_in w).word }) e

-- t is TPR of the word and the ring that are carried; z is what the whole chain gives from those that it began with, and a from the first pointer
module _ (ws m : List ℕ) (v o : ℕ) (t : Pointer) (p : t ≡ tpr_of v o) (z : Formed) where
  pub none_left : (read : ℕ) → 64 ≤ read → through (64 - read) true (lent ws) m (tpr_of v o) ≡ z → (a : Formed) → z ≡ a → bad 31 t 64 ≡ a
  none_left read h c a b = let k : 64 - read ≡ 0 = omega arith in sym (through_none_left (lent ws) m t) ∙ (rw (k, ← p) at c) ∙ b

  module _ (read : ℕ) (h : read < 64) (c : through (64 - read) true (lent ws) m (tpr_of v o) ≡ z) where
    left_here : 64 - read ≡ suc (63 - read)
    left_here = omega arith

    read_here : 64 - suc (63 - read) ≡ read
    read_here = omega arith

    here : through (suc (63 - read)) true (lent ws) m t ≡ z
    here = rw (left_here, ← p) at c

    pub refused : (e : Fault) → both ws (length m) t e ≡ fault_number e → (a : Formed) → z ≡ a → bad (fault_number e) t read ≡ a
    unfolding pointer_answer
    refused e f a b =
        ap (λ i. bad (fault_number e) t i) (sym read_here) ∙ sym (through_refused (lent ws) m t (63 - read) (fault_number e) f (fault_from_one e)) ∙ here ∙ b

    module _ (d : ℕ) (r : Right ws (length m) t.segment d) (y : word_answer t (descriptor_in d) ≡ 0)
        (w l : ℕ) (q : w ≡ word_through m d t.word) (j : l ≡ (next_address t (descriptor_in d) w).ring) (i : Bool) (g : i ≡ indirect_in w) where
      passes : pointer_answer (length ws) (get_or ws t.segment 0) m t ≡ 0
      unfolding pointer_answer then_ask
      passes = rw (look_no ws (length m) t.segment 0 d r.inside r.same (sym r.passes), ← r.same, y)

      next : through (63 - read) i (lent ws) m (tpr_of w l) ≡ z
      unfolding pointer_leads
      next = rw (carried t _ w l j, g, q, r.same) (sym (through_next (lent ws) m t (63 - read) passes) ∙ here)

      pub goes_on : i ≡ true → through (64 - (read + 1)) true (lent ws) m (tpr_of w l) ≡ z
      goes_on e = let k : 64 - (read + 1) ≡ 63 - read = omega arith in rw k (rw e at next)

      pub ends : i ≡ false → (u : Pointer) → u ≡ tpr_of w l → (a : Formed) → z ≡ a → good u (read + 1) ≡ a
      ends e u f a b =
          let k : read + 1 ≡ 64 - (63 - read) = omega arith in
          rw (f, k) (sym (through_off (lent ws) m (tpr_of w l) (63 - read)) ∙ (rw e at next) ∙ b)
