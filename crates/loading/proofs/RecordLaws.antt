-- A record at the front of the bytes, and WD: a law for each outcome. Assumes nothing.
use mathlib.Core.Path.{◌≡◌, refl, sym, ◌∙◌, ap, subst}
use mathlib.Core.Bool.{Bool, true, false, cond}
use mathlib.Core.Logic.{◌⊎◌, inl, inr}
use mathlib.Core.List.{List, ◌++◌, append_assoc}
use mathlib.Core.Option.{some}
use Prim.Native.Nat.{ℕ, ◌+◌, ◌-◌, ◌≤◌, ◌<◌}
use native.Mathlib.Omega.{arith}
use lib.Dec.{leb, ltb}
use lib.ListN.{length, take, drop, set, length-set, length-replicate, take-append-drop}
use lib.Seq.{length-take-le, take-set-lt, drop-set-lt, take-take}
use borrow.Author.Tests.{not-true, not-false, lt-ltb, le-ltb, leb-true, le-leb, lt-leb}
use Rattle.model.specs.Questions.{ask}
use Rattle.model.specs.Run.{unless_refused}
use Rattle.model.specs.Image as Image
use Rattle.model.specs.Image.{Mark, ME, ST, WD, RN, mark_of, start_size, record_size, number_at, delivery_at, has, memory_of, or_else, in_order, memory_allowed, address_allowed, unless_written, address_new, record_questions, with_written, words_with, with_word, with_record, record_on, whole_record_on, image_after}
use Rattle.formats.proofs.ImageLaws.{record_has_a_mark, image_is_records, number_at_front}
use Rattle.model.proofs.BranchLaws.{cond_holds}
use Rattle.fields.proofs.MarkLaws.{mark_of_record}
use Rattle.addresses.specs.Set.{in_set}
use Rattle.loading.specs.declared.Loading.{Loading}
use Rattle.loading.specs.declared.Outcome.TheVariants.{Next}
use Rattle.loading.specs.declared.error.LoadError.{LoadError}
use Rattle.fields.specs.declared.rules.Rules.{Rules}
use Rattle.fields.specs.declared.rules.Rules.TheVariants.{Today, Stored}
use Rattle.std.specs.Prelude.{Option, Some, None, Result, Ok, Err}
use Rattle.loading.specs.View.{rules_of, keeps_words, memory_in, set_in, rules_in, as_loading, StoreSized, MemoryWithin, LoadingWithin}
use Rattle.loading.specs.Record.{outcome_image, Goes, Asked51, word_put, word_outcome, WordTaken, RecordedInStore}

-- A WHOLE RECORD is judged by its own bytes
front_and_rest : (n : ℕ) (bs rest : List ℕ) → bs ++ rest ≡ take n bs ++ (drop n bs ++ rest)
front_and_rest n bs rest = ap (λ xs. xs ++ rest) (sym (take-append-drop n bs)) ∙ append_assoc (take n bs) (drop n bs) rest

module _ (k : Mark) (l : Image.Loading) (bs : List ℕ) (is_marked : mark_of bs ≡ some k) (whole : record_size l.rules k ≤ length bs) where
  pub record_at_front : (rest : List ℕ) → let after = drop (record_size l.rules k) bs ++ rest in
      image_after l (bs ++ rest) ≡ whole_record_on k l (length after) (take (record_size l.rules k) bs) (λ j. image_after j after)
  record_at_front rest =
      let n = record_size l.rules k in
      ap (image_after l) (front_and_rest n bs rest)
      ∙ image_is_records k l (take n bs) (drop n bs ++ rest) (mark_of_record n bs (record_has_a_mark l.rules k) ∙ is_marked) (length-take-le n bs whole)

pub number_in_record : (size a n : ℕ) (bs : List ℕ) → size ≤ length bs → a + n ≤ size → number_at a n (take size bs) ≡ number_at a n bs
number_in_record size a n bs h g =
    sym (number_at_front (take size bs) (drop size bs) a n (let y = length-take-le size bs h in omega arith)) ∙ ap (number_at a n) (take-append-drop size bs)

-- BY A STORE WITHOUT MEMORY an image is read as by today's rules, but for its words
module _ {A : Type 0} (f : Image.Rules → A) (same : f Image.sizing ≡ f Image.today) where
  by_rules : (v : Rules) (m : List ℕ) → f (rules_in v m) ≡ f (rules_of v)
  unfolding rules_in rules_of
  by_rules Stored m = refl
  by_rules Today m = cond_holds (λ r. f r ≡ f Image.today) (keeps_words m) (λ _. refl) (λ _. same)

pub size_in : (v : Rules) (m : List ℕ) (k : Mark) → record_size (rules_in v m) k ≡ record_size (rules_of v) k
size_in v m k = by_rules (λ r. record_size r k) (alike k) v m
  where
    alike : (k : Mark) → record_size Image.sizing k ≡ record_size Image.today k
    alike ME = unfold record_size in refl
    alike ST = unfold record_size start_size in refl
    alike WD = unfold record_size in refl
    alike RN = unfold record_size in refl

pub delivery_in : (v : Rules) (m bs : List ℕ) → delivery_at (rules_in v m) bs ≡ delivery_at (rules_of v) bs
delivery_in v m bs = by_rules (λ r. delivery_at r bs) (unfold delivery_at in refl) v m

unless_in : (v : Rules) (m : List ℕ) (w : Bool) → unless_written (rules_in v m) w ≡ unless_written (rules_of v) w
unless_in v m w = by_rules (λ r. unless_written r w) (unfold unless_written in refl) v m

with_in : (v : Rules) (m : List ℕ) (a : ℕ) (w : ℕ → Bool) → with_written (rules_in v m) a w ≡ with_written (rules_of v) a w
with_in v m a w = by_rules (λ r. with_written r a w) (unfold with_written in refl) v m

-- WHAT IS LENT
module _ (given : Option ℕ) (n : ℕ) (m : List ℕ) (z : MemoryWithin given m) (h : given ≡ Some n) where
  pub words_within : n ≤ 8192
  words_within = rw h at z

  pub within_still : (m_now : List ℕ) → MemoryWithin given m_now
  within_still m_now = rw h words_within

  pub address_within : (a : ℕ) → a < n → a < 8192
  address_within a g = let y = words_within in omega arith

module _ (v : Rules) (m : List ℕ) (s : StoreSized v (length m)) where
  pub has_set : 128 ≤ length m
  unfolding StoreSized
  has_set = by_size s
    where
      by_size : (length m ≡ 8320) ⊎ ((length m ≡ 128) × (v ≡ Today)) → 128 ≤ length m
      by_size (inl e) = omega arith
      by_size (inr e) = let q = e.0 in omega arith

  pub still_sized : (m_now : List ℕ) → length m_now ≡ length m → StoreSized v (length m_now)
  still_sized m_now e = subst (StoreSized v) (sym e) s

pub memory_length : (n : ℕ) (m : List ℕ) → n ≤ 8192 → length (memory_in n m) ≡ n
unfolding memory_in keeps_words
memory_length n m h =
    cond_holds (λ (ws : List ℕ). length ws ≡ n) (leb 8320 (length m)) (λ e. length-take-le n m (let y = leb-true 8320 (length m) e in omega arith))
    (λ _. length-replicate {A = ℕ} n 0)

-- what 51 was asked of has its size still
module _ (v : Image.Rules) (a : ℕ) (m : List ℕ) (answer : Bool) (m_asked : List ℕ) (asked : Asked51 v a m answer m_asked) where
  pub asked_sized : (b : Rules) → StoreSized b (length m) → StoreSized b (length m_asked)
  asked_sized b s = subst (StoreSized b) (sym asked.size_same) s

  pub asked_kept : answer ≡ false → m_asked ≡ m
  asked_kept e = asked.kept e

put_length : (a w : ℕ) (m : List ℕ) → length (word_put a w m) ≡ length m
unfolding word_put
put_length a w m = cond_holds (λ (xs : List ℕ). length xs ≡ length m) (ltb 128 (length m)) (λ _. length-set m a w) (λ _. refl)

pub put_size : (v : Image.Rules) (a w : ℕ) (m : List ℕ) (answer : Bool) (m_asked m_now : List ℕ) → Asked51 v a m answer m_asked → m_now ≡ word_put a w m_asked →
    length m_now ≡ length m
put_size v a w m answer m_asked m_now asked e = ap length e ∙ put_length a w m_asked ∙ asked.size_same

module _ (a w : ℕ) (m : List ℕ) where
  pub put_inside : 128 < length m → set m a w ≡ word_put a w m
  unfolding word_put
  put_inside h = rw (lt-ltb 128 (length m) h) refl

  pub put_nowhere : length m ≤ 128 → m ≡ word_put a w m
  unfolding word_put
  put_nowhere h = rw (le-ltb 128 (length m) h) refl

-- a store with more than the set has all of memory
pub inside_store : (v : Rules) (m : List ℕ) (a : ℕ) → StoreSized v (length m) → 128 < length m → a < 8192 → a < length m
unfolding StoreSized
inside_store v m a s h g = by_size s
  where
    by_size : (length m ≡ 8320) ⊎ ((length m ≡ 128) × (v ≡ Today)) → a < length m
    by_size (inl e) = omega arith
    by_size (inr e) = absurd (let q = e.0 in omega arith)

pub ruleset puts = (put_inside, put_nowhere, inside_store)

-- A WORD PUT is the model's, by either store
record PutAs (v : Rules) (n a w : ℕ) (m m_next : List ℕ) : Type 0 where
  rules_next : rules_in v m_next ≡ rules_in v m
  memory_next : memory_in n m_next ≡ words_with (rules_in v m) a w (memory_in n m)
  set_next : in_set (set_in m_next) ≡ with_written (rules_in v m) a (in_set (set_in m))

rules_by_length : (v : Rules) (m m_next : List ℕ) → length m_next ≡ length m → rules_in v m_next ≡ rules_in v m
unfolding rules_in keeps_words
rules_by_length Stored m m_next e = refl
rules_by_length Today m m_next e = ap (λ k. cond (leb 8320 k) Image.today Image.sizing) e

set_with_memory : (v : Rules) (m : List ℕ) (a w : ℕ) (xs : List ℕ) → leb 8320 (length m) ≡ true → words_with (rules_in v m) a w xs ≡ set xs a w
unfolding rules_in keeps_words words_with
set_with_memory Stored m a w xs e = refl
set_with_memory Today m a w xs e = rw e refl

module _ (v : Rules) (n a w : ℕ) (m m_asked : List ℕ) (asked : Asked51 (rules_of v) a m true m_asked) (g : a < n) (h : n ≤ 8192) where
  put_with_memory : length m ≡ 8320 → PutAs v n a w m (word_put a w m_asked)
  unfolding memory_in keeps_words set_in word_put
  put_with_memory e =
      record {
        rules_next = rules_by_length v m _ long;
        memory_next =
            rw (← put, kept_now, kept) (take-set-lt n m_asked a w g ∙ ap (λ xs. set xs a w) front ∙ sym (set_with_memory v m a w (take n m) kept));
        set_next = ap in_set the_end ∙ asked.set_now refl ∙ sym (with_in v m a (in_set (set_in m)));
      }
    where
      long : length (word_put a w m_asked) ≡ length m
      long = put_length a w m_asked ∙ asked.size_same

      put : set m_asked a w ≡ word_put a w m_asked
      put = put_inside a w m_asked (let y = asked.size_same in omega arith)

      kept : leb 8320 (length m) ≡ true
      kept = le-leb 8320 (length m) (omega arith)

      kept_now : leb 8320 (length (set m_asked a w)) ≡ true
      kept_now = le-leb 8320 (length (set m_asked a w)) (let y = length-set m_asked a w in let z = asked.size_same in omega arith)

      front : take n m_asked ≡ take n m
      front = sym (take-take n (length m - 128) m_asked (omega arith)) ∙ ap (take n) asked.memory_same ∙ take-take n (length m - 128) m (omega arith)

      the_end : set_in (word_put a w m_asked) ≡ set_in m_asked
      the_end =
          ap set_in (sym put) ∙ ap (λ k. drop (k - 128) (set m_asked a w)) (length-set m_asked a w)
          ∙ drop-set-lt (length m_asked - 128) m_asked a w (let y = asked.size_same in omega arith)

  put_without_memory : length m ≡ 128 → v ≡ Today → PutAs v n a w m (word_put a w m_asked)
  unfolding memory_in keeps_words rules_in words_with word_put
  put_without_memory e f =
      record {
        rules_next = rules_by_length v m _ (put_length a w m_asked ∙ asked.size_same);
        memory_next = rw (← put, kept_now, f, kept) refl;
        set_next = ap (λ xs. in_set (set_in xs)) (sym put) ∙ asked.set_now refl ∙ sym (with_in v m a (in_set (set_in m)));
      }
    where
      put : m_asked ≡ word_put a w m_asked
      put = put_nowhere a w m_asked (let y = asked.size_same in omega arith)

      kept : leb 8320 (length m) ≡ false
      kept = lt-leb 8320 (length m) (omega arith)

      kept_now : leb 8320 (length m_asked) ≡ false
      kept_now = lt-leb 8320 (length m_asked) (let z = asked.size_same in omega arith)

  put_as : StoreSized v (length m) → PutAs v n a w m (word_put a w m_asked)
  unfolding StoreSized
  put_as s = by_size s
    where
      by_size : (length m ≡ 8320) ⊎ ((length m ≡ 128) × (v ≡ Today)) → PutAs v n a w m (word_put a w m_asked)
      by_size (inl e) = put_with_memory e
      by_size (inr e) = put_without_memory e.0 e.1

-- A RECORD IN FRONT, of so many bytes as the rules give it
module _ (k : Mark) (x : Loading) (m bs : List ℕ) (is_marked : mark_of bs ≡ some k) (whole : record_size (rules_of x.rules) k ≤ length bs) where
  pub loading_front : (rest : List ℕ) → let size = record_size (rules_of x.rules) k in
      image_after (as_loading x m) (bs ++ rest)
      ≡ whole_record_on k (as_loading x m) (length (drop size bs ++ rest)) (take size bs) (λ j. image_after j (drop size bs ++ rest))
  unfolding as_loading
  loading_front rest =
      let v = x.rules in
      record_at_front k (as_loading x m) bs is_marked (subst (λ n. n ≤ length bs) (sym (size_in v m k)) whole) rest
      ∙ ap (λ n. whole_record_on k (as_loading x m) (length (drop n bs ++ rest)) (take n bs) (λ j. image_after j (drop n bs ++ rest))) (size_in v m k)

-- 42
module _ (k : Mark) (x : Loading) (m bs : List ℕ) (e : Bool) (is_marked : mark_of bs ≡ some k) (whole : record_size (rules_of x.rules) k ≤ length bs) where
  pub out_of_order : ((rest : List ℕ) → in_order k (as_loading x m) (length (drop (record_size (rules_of x.rules) k) bs ++ rest)) ≡ false) → Goes (as_loading x m) bs e (Err LoadError.OutOfPlace) (as_loading x m)
  unfolding Goes as_loading outcome_image whole_record_on record_questions ask unless_refused
  out_of_order h rest _ = loading_front k x m bs is_marked whole rest ∙ rw (h rest)

-- WD
module _ (x : Loading) (m bs : List ℕ) (e : Bool) (is_marked : mark_of bs ≡ some WD) (whole : 14 ≤ length bs) where
  pub wd_before_me : x.words ≡ None → Goes (as_loading x m) bs e (Err LoadError.OutOfPlace) (as_loading x m)
  unfolding as_loading record_size in_order has
  wd_before_me h = out_of_order WD x m bs e is_marked whole (λ rest. rw h)

  module _ (n : ℕ) (h : x.words ≡ Some n) (z : MemoryWithin x.words m) (a : ℕ) (q : a ≡ number_at 2 4 bs) where
    address : number_at 2 4 (take 14 bs) ≡ a
    address = number_in_record 14 2 4 bs whole (omega arith) ∙ sym q

    sized : length (memory_in n m) ≡ n
    sized = memory_length n m (words_within _ _ m z h)

    pub wd_outside : n ≤ a → Goes (as_loading x m) bs e (Err LoadError.AddressOutsideMemory) (as_loading x m)
    unfolding Goes as_loading outcome_image record_size whole_record_on record_questions in_order memory_allowed address_allowed memory_of or_else ask has unless_refused
    wd_outside g rest _ = loading_front WD x m bs is_marked whole rest ∙ rw (h, address, sized, le-ltb _ _ g)

    module _ (g : a < n) (answer : Bool) (m_asked : List ℕ) (asked : Asked51 (rules_of x.rules) a m answer m_asked) where
      may_be : unless_written (rules_in x.rules m) (in_set (set_in m) a) ≡ answer
      may_be = unless_in x.rules m (in_set (set_in m) a) ∙ sym asked.answered

      pub wd_written : answer ≡ false → Goes (as_loading x m) bs e (Err LoadError.AddressTwice) (as_loading x m_asked)
      unfolding Goes as_loading outcome_image record_size whole_record_on record_questions in_order memory_allowed address_allowed address_new memory_of or_else ask has unless_refused
      wd_written denied rest _ = loading_front WD x m bs is_marked whole rest ∙ rw (h, address, sized, lt-ltb _ _ g, may_be, denied)

      pub wd_loaded : answer ≡ true → StoreSized x.rules (length m) → (v : ℕ) (m_now : List ℕ) → v ≡ number_at 6 8 bs → m_now ≡ word_put a v m_asked →
          Goes (as_loading x m) bs e (Ok (Next 14)) (as_loading x m_now)
      unfolding Goes as_loading outcome_image record_size whole_record_on record_questions in_order memory_allowed address_allowed address_new record_on with_record with_word memory_of or_else ask has unless_refused
      wd_loaded allowed s v m_now w put rest _ =
          let word : number_at 6 8 (take 14 bs) ≡ v = number_in_record 14 6 8 bs whole (omega arith) ∙ sym w in
          let p = put_as x.rules n a v m m_asked (subst (λ b. Asked51 (rules_of x.rules) a m b m_asked) allowed asked) g (words_within _ _ m z h) s in
          loading_front WD x m bs is_marked whole rest
          ∙ rw (h, address, sized, lt-ltb _ _ g, may_be, allowed, word, put, p.rules_next, p.memory_next, p.set_next)

pub ruleset word_loaded = (not-true, not-false, within_still, address_within, asked_sized, asked_kept, put_size, wd_before_me, wd_outside, wd_written, wd_loaded)

-- A WD AS A RECORD
module _ {A : Type 0} (l : Loading) (m bs : List ℕ) (x : Result A LoadError) (m_now : List ℕ) (w : WordTaken l.rules l.words m bs x m_now) (within : LoadingWithin l m) where
  pub within_now : LoadingWithin l m_now
  within_now = record { sized = still_sized l.rules m within.sized m_now w.size_same; memory_within = w.memory_within }

  pub goes_now : (e : Bool) → Goes (as_loading l m) bs e (word_outcome x) (as_loading l m_now)
  unfolding as_loading
  goes_now e = w.goes l.registers e

  pub recorded_refused : (error : LoadError) → x ≡ Err error → RecordedInStore l m bs (Err error) m_now
  recorded_refused error q e =
      record { size_same = w.size_same; within = within_now; goes = rw q at (goes_now e); outcome_within = tt; kept = (refl, rw q at w.kept) }

  pub goes_next : (a : A) → x ≡ Ok a → (e : Bool) → Goes (as_loading l m) bs e (Ok (Next 14)) (as_loading l m_now)
  goes_next a q e = rw q at (goes_now e)

  pub recorded_next : (a : A) → x ≡ Ok a → 14 ≤ length bs → RecordedInStore l m bs (Ok (Next 14)) m_now
  recorded_next a q h e =
      record { size_same = w.size_same; within = within_now; goes = goes_next a q e; outcome_within = (omega arith, h); kept = tt }

pub ruleset word_recorded = (recorded_refused, recorded_next)
