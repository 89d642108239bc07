-- The record at the front of some bytes, by its mark. Assumes nothing.
use mathlib.Core.Path.{◌≡◌, refl, sym, ◌∙◌, ap}
use mathlib.Core.Bool.{false}
use mathlib.Core.List.{List}
use mathlib.Core.Logic.{◌⊎◌, inl, inr}
use mathlib.Core.Option.{some}
use Prim.Native.Nat.{ℕ, ◌≤◌, ◌<◌}
use native.Mathlib.Omega.{arith}
use lib.Dec.{ltb}
use Rattle.std.specs.Prelude.{Option, None, Some, IfSome}
use lib.ListN.{length, take, drop, take-append-drop}
use lib.Seq.{length-take-le}
use borrow.Author.Tests.{le-leb, lt-leb, ltb-true, eq-eqb}
use Rattle.model.specs.Image as Image
use Rattle.model.specs.Image.{stored, mark_of, start_size, record_size, number_at}
use Rattle.model.specs.Convert.{size_by, front_size, is_word, writes}
use Rattle.formats.proofs.ImageLaws.{record_has_a_mark, number_at_front}
use Rattle.fields.specs.declared.mark.Mark.{Mark}
use Rattle.fields.specs.declared.mark.Mark.TheVariants.{Memory, Start, Word, Run}
use Rattle.fields.specs.Mark.{as_mark, size_of}
use Rattle.fields.specs.Rules.{rules_of}
use Rattle.fields.specs.declared.rules.Rules.TheVariants.{Stored}
use Rattle.fields.proofs.MarkLaws.{mark_of_record}
use Rattle.model.proofs.BranchLaws.{cond_holds}
use Rattle.compaction.specs.Front.{written_word, small_address, AtFront}

-- A WHOLE RECORD of a known mark, and the word that it writes
module _ (k : Image.Mark) (bs : List ℕ) (m : mark_of bs ≡ some k) (whole : record_size stored k ≤ length bs) where
  whole_front : record_size stored k ≡ front_size stored bs
  unfolding front_size size_by
  whole_front = sym (rw (m, le-leb _ _ whole))

  mark_same : mark_of (take (record_size stored k) bs) ≡ some k
  mark_same = mark_of_record (record_size stored k) bs (record_has_a_mark stored k) ∙ m

  wordless : is_word (some k) ≡ false → AtFront bs (record { size = record_size stored k; word = None })
  unfolding written_word writes
  wordless e =
      record { size_is = whole_front; has_bytes = let y = record_has_a_mark stored k in omega arith; word_is = sym (rw (mark_same, e)); word_within = tt }

pub unknown_front : (bs : List ℕ) (k : Option Mark) → as_mark k ≡ mark_of bs → k ≡ None → front_size stored bs ≡ 0
unfolding front_size size_by
unknown_front bs k m e = rw (← m, e) refl

module _ (k : Mark) (bs : List ℕ) (m : as_mark (Some k) ≡ mark_of bs) where
  module _ (s : ℕ) (sized : s ≡ size_of (rules_of Stored) (Some k)) where
    pub short_front : length bs < s → front_size stored bs ≡ 0
    unfolding front_size size_by start_size record_size rules_of
    short_front h = sym (by_mark k (rw sized at h) ∙ ap (λ x. size_by stored x (length bs)) m)
      where
        by_mark : (k : Mark) → length bs < size_of (rules_of Stored) (Some k) → 0 ≡ size_by stored (as_mark (Some k)) (length bs)
        by_mark Memory h = sym (rw (lt-leb _ _ h))
        by_mark Start h = sym (rw (lt-leb _ _ h))
        by_mark Word h = sym (rw (lt-leb _ _ h))
        by_mark Run h = sym (rw (lt-leb _ _ h))

    module _ (whole : s ≤ length bs) where
      me_front : k ≡ Memory → AtFront bs (record { size = s; word = None })
      unfolding is_word start_size record_size rules_of
      me_front e = rw (sized, e) (wordless Image.ME bs (rw e at (sym m)) (rw (sized, e) at whole) refl)

      st_front : k ≡ Start → AtFront bs (record { size = s; word = None })
      unfolding is_word start_size record_size rules_of
      st_front e = rw (sized, e) (wordless Image.ST bs (rw e at (sym m)) (rw (sized, e) at whole) refl)

      rn_front : k ≡ Run → AtFront bs (record { size = s; word = None })
      unfolding is_word start_size record_size rules_of
      rn_front e = rw (sized, e) (wordless Image.RN bs (rw e at (sym m)) (rw (sized, e) at whole) refl)

      by_mark : (k ≡ Memory) ⊎ ((k ≡ Start) ⊎ (k ≡ Run)) → AtFront bs (record { size = s; word = None })
      by_mark (inl e) = me_front e
      by_mark (inr (inl e)) = st_front e
      by_mark (inr (inr e)) = rn_front e

      pub wordless_front : (k ≡ Memory) ⊎ ((k ≡ Start) ⊎ (k ≡ Run)) → (w : Option ℕ) → w ≡ None → AtFront bs (record { size = s; word = w })
      wordless_front e w d = rw d (by_mark e)

      module _ (e : k ≡ Word) (a : ℕ) (at : a ≡ number_at 2 4 bs) where
        wd_mark : mark_of bs ≡ some Image.WD
        wd_mark = sym m ∙ ap (λ i. as_mark (Some i)) e

        wd_size : s ≡ 14
        wd_size = sized ∙ ap (λ i. size_of (rules_of Stored) (Some i)) e

        address : number_at 2 4 (take 14 bs) ≡ a
        address =
            sym (number_at_front (take 14 bs) (drop 14 bs) 2 4 (let y = length-take-le 14 bs (omega (arith, wd_size)) in omega arith))
            ∙ ap (number_at 2 4) (take-append-drop 14 bs) ∙ sym at

        pub wd_front : (w : Option ℕ) → w ≡ small_address a → AtFront bs (record { size = s; word = w })
        unfolding written_word writes is_word record_size
        wd_front w told =
            rw (wd_size, told)
            (record {
              size_is = whole_front Image.WD bs wd_mark (omega (arith, wd_size));
              has_bytes = omega arith;
              word_is = sym (rw (mark_same Image.WD bs wd_mark (omega (arith, wd_size)), address, eq-eqb a a refl) refl);
              word_within = cond_holds (λ x. IfSome x (λ k. k < 8192)) (ltb a 8192) (λ t. ltb-true a 8192 t) (λ _. tt);
            })

pub wd_whole : (k : Mark) (s : ℕ) (bs : List ℕ) → s ≡ size_of (rules_of Stored) (Some k) → k ≡ Word → s ≤ length bs → 6 ≤ length bs
wd_whole k s bs sized e whole = let z : s ≡ 14 = sized ∙ ap (λ i. size_of (rules_of Stored) (Some i)) e in omega arith

pub ruleset fronts = (unknown_front, short_front, wordless_front, wd_front, wd_whole)
