-- Bytes without a whole record of a known mark: 41 and 42. Assumes nothing.
use mathlib.Core.Path.{◌≡◌, refl, sym, ◌∙◌, ap, subst}
use mathlib.Core.Bool.{Bool, true}
use mathlib.Core.List.{List, [], ◌∷◌, ◌++◌, append-nil}
use mathlib.Core.Option.{some}
use Prim.Native.Nat.{ℕ, ◌≤◌, ◌<◌}
use native.Mathlib.Omega.{arith}
use lib.ListN.{length, length-append}
use borrow.Author.Tests.{not-true, lt-leb}
use Rattle.model.specs.Image as Image
use Rattle.model.specs.Image.{mark_of, record_size, refused_image, marked_on, bytes_on, image_after}
use Rattle.formats.proofs.ImageLaws.{image_record_by_record, image_needs_rn}
use Rattle.fields.specs.declared.mark.Mark.{Mark}
use Rattle.fields.specs.declared.mark.Mark.TheVariants.{Memory, Start, Word, Run}
use Rattle.fields.specs.declared.rules.Rules.{Rules}
use Rattle.std.specs.Prelude.{Option, Some, None, Err}
use Rattle.loading.specs.declared.Loading.{Loading}
use Rattle.loading.specs.declared.error.LoadError.{LoadError}
use Rattle.fields.specs.Mark.{as_mark, size_of}
use Rattle.fields.specs.Rules.{rules_of}
use Rattle.loading.specs.View.{rules_in, as_loading}
use Rattle.loading.specs.Record.{outcome_image, Goes}
use Rattle.fields.proofs.MarkLaws.{mark_of_front, start_within}
use Rattle.loading.proofs.RecordLaws.{size_in}

pub part_is_short : (v : Rules) (k : Option Mark) (bs : List ℕ) → length bs < size_of (rules_of v) k → length bs < 66
part_is_short v (Some Memory) bs h = omega arith
part_is_short v (Some Start) bs h = let y = start_within v in omega arith
part_is_short v (Some Word) bs h = omega arith
part_is_short v (Some Run) bs h = omega arith
part_is_short v None bs h = omega arith

bytes_are_marked : (l : Image.Loading) (bs : List ℕ) (f : Image.Loading → List ℕ → Image.Image) → 1 ≤ length bs → bytes_on l bs f ≡ marked_on (mark_of bs) l bs f
unfolding bytes_on
bytes_are_marked l [] f h = absurd (omega arith)
bytes_are_marked l (b ∷ bs) f h = refl

some_bytes : (l : Image.Loading) (bs : List ℕ) → 1 ≤ length bs → image_after l bs ≡ marked_on (mark_of bs) l bs (λ j rest. image_after j rest)
some_bytes l bs h = image_record_by_record l bs ∙ bytes_are_marked l bs _ h

-- the mark is unknown, or the record isn't whole
part_refused : (k : Option Mark) (l : Image.Loading) (bs : List ℕ) (f : Image.Loading → List ℕ → Image.Image) → length bs < size_of l.rules k → marked_on (as_mark k) l bs f ≡ refused_image 41
unfolding marked_on record_size
part_refused (Some Memory) l bs f h = rw (lt-leb _ _ h)
part_refused (Some Start) l bs f h = rw (lt-leb _ _ h)
part_refused (Some Word) l bs f h = rw (lt-leb _ _ h)
part_refused (Some Run) l bs f h = rw (lt-leb _ _ h)
part_refused None l bs f h = refl

no_length : (bs : List ℕ) → length bs ≡ 0 → bs ≡ []
no_length [] e = refl
no_length (b ∷ bs) e = absurd (omega arith)

size_of_in : (v : Rules) (m : List ℕ) (k : Option Mark) → size_of (rules_in v m) k ≡ size_of (rules_of v) k
size_of_in v m (Some Memory) = refl
size_of_in v m (Some Start) = unfold record_size in size_in v m Image.ST
size_of_in v m (Some Word) = refl
size_of_in v m (Some Run) = refl
size_of_in v m None = refl

module _ (x : Loading) (m bs : List ℕ) (e : Bool) where
  abbrev l : Image.Loading
  l = as_loading x m

  pub no_bytes : e ≡ true → length bs ≡ 0 → Goes l bs e (Err LoadError.OutOfPlace) l
  unfolding Goes outcome_image
  no_bytes ended h rest f = rw (no_length bs h, f ended) (image_needs_rn l)

  module _ (k : Option Mark) (q : as_mark k ≡ mark_of bs) where
    pub part_ended : e ≡ true → (length bs ≡ 0 → ⊥) → length bs < size_of (rules_of x.rules) k → Goes l bs e (Err LoadError.CutShort) l
    unfolding Goes as_loading outcome_image
    part_ended ended n h rest f =
        ap (λ xs. image_after l (bs ++ xs)) (f ended) ∙ ap (image_after l) (append-nil bs) ∙ some_bytes l bs (omega arith)
        ∙ ap (λ o. marked_on o l bs (λ j xs. image_after j xs)) (sym q) ∙ part_refused k l bs _ (subst (λ n. length bs < n) (sym (size_of_in x.rules m k)) h)

    pub unknown_mark : k ≡ None → (s : ℕ) → s ≤ length bs → s ≡ size_of (rules_of x.rules) k → Goes l bs e (Err LoadError.CutShort) l
    unfolding Goes outcome_image marked_on
    unknown_mark u s h z rest _ =
        let y : 2 ≤ length bs = rw (z, u) at h in
        let w = length-append bs rest in
        some_bytes l (bs ++ rest) (omega arith)
        ∙ ap (λ o. marked_on o l (bs ++ rest) (λ j xs. image_after j xs)) (mark_of_front bs rest y ∙ sym q ∙ ap as_mark u)

-- A WHOLE RECORD of each mark
module _ (k : Option Mark) (bs : List ℕ) (q : as_mark k ≡ mark_of bs) where
  pub marked_me : k ≡ Some Memory → mark_of bs ≡ some Image.ME
  marked_me e = sym q ∙ ap as_mark e

  pub marked_st : k ≡ Some Start → mark_of bs ≡ some Image.ST
  marked_st e = sym q ∙ ap as_mark e

  pub marked_wd : k ≡ Some Word → mark_of bs ≡ some Image.WD
  marked_wd e = sym q ∙ ap as_mark e

  pub marked_rn : k ≡ Some Run → mark_of bs ≡ some Image.RN
  marked_rn e = sym q ∙ ap as_mark e

module _ (v : Image.Rules) (k : Option Mark) (n s : ℕ) (h : s ≤ n) (q : s ≡ size_of v k) where
  pub whole_me : k ≡ Some Memory → 6 ≤ n
  whole_me e = rw (q, e) at h

  pub whole_st : k ≡ Some Start → Image.start_size v ≤ n
  whole_st e = rw (q, e) at h

  pub whole_wd : k ≡ Some Word → 14 ≤ n
  whole_wd e = rw (q, e) at h

  pub whole_rn : k ≡ Some Run → 6 ≤ n
  whole_rn e = rw (q, e) at h

pub ruleset parts = (not-true, part_is_short, no_bytes, part_ended)

pub ruleset whole_records = (unknown_mark, marked_me, marked_st, marked_wd, marked_rn, whole_me, whole_st, whole_wd, whole_rn)
