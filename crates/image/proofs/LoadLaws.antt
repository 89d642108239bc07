-- Records one after another: what holds between two of them, and a law for each outcome of the last. Assumes nothing.
use mathlib.Core.Path.{◌≡◌, refl, sym, ◌∙◌, ap, ap₂, subst}
use mathlib.Core.Bool.{Bool, true, false, ◌&&◌}
use mathlib.Core.Option.{some}
use mathlib.Core.List.{List, [], ◌++◌, append-nil}
use Prim.Native.Nat.{ℕ, zero, suc, ◌+◌, ◌-◌, ◌^◌, ◌≤◌, ◌<◌}
use native.Mathlib.Omega.{arith}
use lib.Dec.{eqb}
use lib.ListN.{length, get_or, take, drop, replicate, length-drop}
use borrow.Author.Tests.{eqb-true, le-leb}
use mir.Syntax.{w64}
use mir.Val.{Fits}
use Rattle.model.proofs.BranchLaws.{and_left, and_right}
use lib.Seq.{drop-drop, take_all}
use Rattle.model.specs.Image as Image
use Rattle.model.specs.Image.{image_after}
use Rattle.host.specs.Record.{registers_of, delivery_of}
use Rattle.model.specs.Registers.{machine}
use Rattle.loading.specs.declared.Loading.{Loading}
use Rattle.loading.specs.declared.Outcome.{Outcome}
use Rattle.loading.specs.declared.Outcome.TheVariants.{Waits, Next, Ready}
use Rattle.loading.specs.declared.Start.{Start}
use Rattle.loading.specs.declared.error.LoadError.{LoadError}
use Rattle.fields.specs.declared.rules.Rules.{Rules}
use Rattle.fields.specs.declared.rules.Rules.TheVariants.{Today}
use Rattle.std.specs.Prelude.{Result, Ok, Err}
use Rattle.image.specs.declared.load.LoadOutcome.TheVariants as Load
use Rattle.loading.specs.View.{keeps_words, memory_in, as_loading, LoadingWithin, Starts, StartsSizing}
use Rattle.loading.specs.Record.{outcome_image, Goes, StartOf, WordTaken, RecordedAs}
use Rattle.loading.proofs.RecordLaws.{within_now, goes_next}
use Rattle.image.specs.Load.{LoadedSoFar, WordIf, WordLoaded, WordsLoaded, LoadedAs}

pub no_record_yet : (l : Loading) (m bs : List ℕ) (e : Bool) → LoadingWithin l m → LoadedSoFar l m bs e 0 l m
unfolding Goes outcome_image
no_record_yet l m bs e h = record { in_bytes = omega arith; same_length = refl; within = h; goes = λ rest _. refl }

-- the bytes from `at` on, as a part of a slice
abbrev from : (at : ℕ) → List ℕ → List ℕ
from at bs = take (length bs - at) (drop at bs)

from_is_drop : (at : ℕ) (bs : List ℕ) → from at bs ≡ drop at bs
from_is_drop at bs = take_all (length bs - at) (drop at bs) (let z = length-drop at bs in omega arith)

module _ {l : Loading} {m bs : List ℕ} {e : Bool} {at : ℕ} {k : Loading} {m_now : List ℕ} (i : LoadedSoFar l m bs e at k m_now)
    {j : Loading} {o : Result Outcome LoadError} {m_next : List ℕ} (r : RecordedAs k m_now (from at bs) e o j m_next) where
  both : (rest : List ℕ) → (e ≡ true → rest ≡ []) → image_after (as_loading l m) (bs ++ rest) ≡ outcome_image o (as_loading j m_next) (drop at bs) rest
  unfolding Goes outcome_image
  both rest f = i.goes rest f ∙ (rw (from_is_drop at bs) at r.goes) rest f

  long : length m_next ≡ length m
  long = r.size_same ∙ i.same_length

  left : length (from at bs) ≡ length bs - at
  left = ap length (from_is_drop at bs) ∙ length-drop at bs

  pub last_refused : (error : LoadError) → o ≡ Err error → LoadedAs l m bs e (Err error) j m_next
  unfolding Goes outcome_image
  last_refused error q = record { size_same = long; within = r.within; goes = λ rest f. both rest f ∙ rw q; outcome_within = tt }

  pub last_waits : o ≡ Ok Waits → LoadedAs l m bs e (Ok (Load.More at)) j m_next
  unfolding Goes outcome_image
  last_waits q =
      let w = rw q at r.outcome_within in
      let z = left in
      let h = i.in_bytes in
      record { size_same = long; within = r.within; goes = λ rest f. both rest f ∙ rw q; outcome_within = (w.0, h, let y = w.1 in omega arith) }

  pub last_ready : (s : Start) → o ≡ Ok (Ready s) → LoadedAs l m bs e (Ok (Load.Ready s)) j m_next
  unfolding Goes outcome_image
  last_ready s q = record { size_same = long; within = r.within; goes = λ rest f. both rest f ∙ rw q; outcome_within = rw q at r.outcome_within }

  module _ {s : ℕ} (q : o ≡ Ok (Next s)) where
    pub next_in_bytes : at + s ≤ length bs
    next_in_bytes = let y = (rw q at r.outcome_within).1 in let z = left in let h = i.in_bytes in omega arith

    pub next_less : length bs - (at + s) < length bs - at
    next_less = let u = (rw q at r.outcome_within).0 in let y = (rw q at r.outcome_within).1 in let z = left in omega arith

    pub one_more : LoadedSoFar l m bs e (at + s) j m_next
    unfolding Goes outcome_image
    one_more =
        record {
          in_bytes = next_in_bytes;
          same_length = long;
          within = r.within;
          goes = λ rest f. both rest f ∙ rw q (ap (λ xs. image_after (as_loading j m_next) (xs ++ rest)) (drop-drop s at bs));
        }

-- WD RECORDS: those so far, and one more
some_of_two : (n s : ℕ) → ((n ≡ 0 → ⊥) → 6 ≤ n) → ((s ≡ 0 → ⊥) → 6 ≤ s) → (n + s ≡ 0 → ⊥) → 6 ≤ n + s
some_of_two zero s f g h = let y = g (λ e. h (omega arith)) in omega arith
some_of_two (suc n) s f g h = let y = f (λ e. omega arith) in omega arith

pub no_word_yet : (l : Loading) (m bs : List ℕ) → LoadingWithin l m → WordsLoaded l m bs 0 m
no_word_yet l m bs h = record { so_far = λ e. no_record_yet l m bs e h; some_bytes = λ f. absurd (f refl); none_same = λ _. refl }

module _ (l : Loading) (m bs : List ℕ) (n : ℕ) (m_now : List ℕ) (i : WordsLoaded l m bs n m_now) where
  pub words_in_bytes : n ≤ length bs
  words_in_bytes = (i.so_far true).in_bytes

  pub words_within_store : LoadingWithin l m_now
  words_within_store = (i.so_far true).within

  module _ (s : ℕ) (m_next : List ℕ) (r : WordLoaded l m_now (from n bs) s m_next) where
    left_in_bytes : s ≤ length bs - n
    left_in_bytes = subst (λ k. s ≤ k) (ap length (from_is_drop n bs) ∙ length-drop n bs) r.in_bytes

    pub word_in_bytes : length bs < 2 ^ 64 → Fits w64 (n + s)
    word_in_bytes f = record { fits = let h = left_in_bytes in let z = words_in_bytes in omega arith }

    pub word_less : (s ≡ 0 → ⊥) → length bs - (n + s) < length bs - n
    word_less f = let h = left_in_bytes in let z = words_in_bytes in omega arith

    pub next_in_all : n + s ≤ length bs
    next_in_all = let h = left_in_bytes in let z = words_in_bytes in omega arith

    pub words_length : length m_next ≡ length m
    words_length = r.same_length ∙ (i.so_far true).same_length

    pub one_word_more : WordsLoaded l m bs (n + s) m_next
    unfolding Goes outcome_image
    one_word_more =
        record {
          some_bytes = λ f. some_of_two n s i.some_bytes r.some_bytes f;
          none_same = λ f. r.none_same (let e : s ≡ 0 = omega arith in e) ∙ i.none_same (let e : n ≡ 0 = omega arith in e);
          so_far =
              λ e.
              record {
                in_bytes = let h = left_in_bytes in let z = words_in_bytes in omega arith;
                same_length = words_length;
                within = r.within;
                goes =
                    λ rest f. (i.so_far e).goes rest f ∙ (rw (from_is_drop n bs) at (r.goes e)) rest f
                    ∙ ap (λ xs. image_after (as_loading l m_next) (xs ++ rest)) (drop-drop s n bs);
              };
        }

    pub words_end : s ≡ 0 → WordsLoaded l m bs n m_next
    words_end f = subst (λ k. WordsLoaded l m bs k m_next) (let e : n + s ≡ n = omega arith in e) one_word_more

pub ruleset words = (no_word_yet, words_within_store, word_in_bytes, word_less, next_in_all, words_length, one_word_more, words_end)

-- a WD record in front
pub word_marked : (bs : List ℕ) → eqb (get_or bs 0 0) 87 && eqb (get_or bs 1 0) 68 ≡ true → Image.mark_of bs ≡ some Image.WD
unfolding Image.mark_of Image.marked
word_marked bs e =
    rw
    (eqb-true (get_or bs 0 0) 87 (and_left (eqb (get_or bs 0 0) 87) (eqb (get_or bs 1 0) 68) e), eqb-true (get_or bs 1 0) 68 (and_right (eqb (get_or bs 0 0) 87) (eqb (get_or bs 1 0) 68) e))
    refl

pub word_in_front : (bs : List ℕ) (b : Bool) → 14 ≤ length bs → b ≡ (eqb (get_or bs 0 0) 87 && eqb (get_or bs 1 0) 68) → WordIf b bs
word_in_front bs true h e = (word_marked bs (sym e), h)
word_in_front bs false h e = tt

module _ (r : Bool) (bs : List ℕ) (h : WordIf r bs) (e : r ≡ true) where
  pub front_marked : Image.mark_of bs ≡ some Image.WD
  front_marked = (subst (λ b. WordIf b bs) e h).0

  pub front_whole : 14 ≤ length bs
  front_whole = (subst (λ b. WordIf b bs) e h).1

-- nothing was loaded
module _ (l : Loading) (m bs : List ℕ) where
  pub no_word : LoadingWithin l m → WordLoaded l m bs 0 m
  unfolding Goes outcome_image
  no_word h = record { in_bytes = omega arith; same_length = refl; within = h; goes = λ e rest _. refl; some_bytes = λ f. absurd (f refl); none_same = λ _. refl }

  module _ {A : Type 0} (x : Result A LoadError) (m_now : List ℕ) (w : WordTaken l.rules l.words m bs x m_now) (h : LoadingWithin l m) where
    pub word_refused : (error : LoadError) → x ≡ Err error → WordLoaded l m bs 0 m_now
    word_refused error q = subst (WordLoaded l m bs 0) (sym (rw q at w.kept)) (no_word h)

    pub word_next : (a : A) → x ≡ Ok a → 14 ≤ length bs → WordLoaded l m bs 14 m_now
    word_next a q g =
        record {
          in_bytes = g;
          some_bytes = λ _. omega arith;
          none_same = λ f. absurd (omega arith);
          same_length = w.size_same;
          within = within_now l m bs x m_now w h;
          goes = goes_next l m bs x m_now w h a q;
        }

pub ruleset fronts = (word_in_front, front_marked, front_whole, no_word, word_refused, word_next)

-- as a record of all their bytes, or else the next record
module _ (l : Loading) (m bs : List ℕ) (e : Bool) (n : ℕ) (m_now : List ℕ) (w : WordsLoaded l m bs n m_now) where
  pub words_as_one : (n ≡ 0 → ⊥) → RecordedAs l m bs e (Ok (Next n)) l m_now
  words_as_one f =
      record { size_same = (w.so_far e).same_length; within = (w.so_far e).within; goes = (w.so_far e).goes; outcome_within = (w.some_bytes f, (w.so_far e).in_bytes); kept = tt }

  pub no_words : n ≡ 0 → (x : Result Outcome LoadError) (k : Loading) (m_next : List ℕ) → RecordedAs l m_now bs e x k m_next → RecordedAs l m bs e x k m_next
  no_words f x k m_next = subst (λ v. RecordedAs l v bs e x k m_next) (w.none_same f)

pub ruleset nexts = (words_as_one, no_words)

-- a whole image, from nothing
pub whole_loaded : (v : Image.Rules) (l : Image.Loading) (bs : List ℕ) (o : Result Outcome LoadError) (k : Image.Loading) → l ≡ Image.nothing_loaded v → Goes l bs true o k →
    image_after (Image.nothing_loaded v) bs ≡ outcome_image o k bs []
unfolding Goes
whole_loaded v l bs o k e h = sym (ap₂ image_after e (append-nil bs)) ∙ h [] (λ _. refl)

pub image_loaded : (l : Image.Loading) (bs : List ℕ) (o : Result Outcome LoadError) (k : Image.Loading) → l ≡ Image.nothing_loaded Image.today → Goes l bs true o k → Image.image bs ≡ outcome_image o k bs []
unfolding Image.image
image_loaded l bs o k e h = whole_loaded Image.today l bs o k e h

-- a store of zeros may be lent before the first record
pub may_load : (v : Rules) (l : Loading) (m : List ℕ) → Starts v l → m ≡ replicate 8320 0 → LoadingWithin l m
unfolding Starts
may_load v l m s z = (s m z).0

pub may_size : (l : Loading) (m : List ℕ) → StartsSizing Today l → m ≡ replicate 128 0 → LoadingWithin l m
unfolding StartsSizing
may_size l m s z = (s refl m z).0

-- once ME has come, the image's memory is the front of what is lent
pub memory_is_front : (n : ℕ) (m : List ℕ) → length m ≡ 8320 → memory_in n m ≡ take n m
unfolding memory_in keeps_words
memory_is_front n m full = rw (le-leb 8320 (length m) (omega arith)) refl

-- WHAT A START GIVES
module _ (l : Loading) (m : List ℕ) (s : Start) (is : StartOf l s) where
  pub words_within : LoadingWithin l m → length m ≡ 8320 → s.words ≤ length m
  words_within w full = let h : s.words ≤ 8192 = rw is.words_given at w.memory_within in omega arith

  -- what faults do is loaded with the registers
  pub loaded_delivery : (as_loading l m).delivery ≡ delivery_of s.registers
  unfolding as_loading
  loaded_delivery = rw is.registers_given refl

  pub loaded_machine : Image.machine_of (as_loading l m) ≡ record { registers = registers_of s.registers; memory = memory_in s.words m }
  unfolding Image.machine_of Image.memory_of Image.or_else as_loading machine
  loaded_machine = rw (is.words_given, is.registers_given) refl

  pub loaded_full : length m ≡ 8320 → Image.machine_of (as_loading l m) ≡ record { registers = registers_of s.registers; memory = take s.words m }
  loaded_full full = loaded_machine ∙ ap (λ ws. record { registers = registers_of s.registers; memory = ws }) (memory_is_front s.words m full)

pub ruleset loads = (no_record_yet, last_refused, last_waits, last_ready, one_more)
