-- ME, ST and RN at the front of the bytes: a law for each outcome. Assumes nothing.
use mathlib.Core.Path.{◌≡◌, refl, sym, ◌∙◌, ap}
use mathlib.Core.Bool.{Bool, true, false, not, ◌&&◌, ◌||◌, true≢false, false≢true}
use mathlib.Core.List.{List, ◌∷◌, ◌++◌}
use mathlib.Core.Option.{some}
use Prim.Native.Nat.{ℕ, zero, suc, ◌≤◌, ◌<◌}
use native.Mathlib.Omega.{arith}
use lib.Dec.{leb}
use lib.ListN.{length, take, drop, replicate, length-append, length-drop, drop_of_length-le}
use lib.Seq.{length-take-le}
use Rattle.model.proofs.BranchLaws.{cond_holds}
use borrow.Author.Tests.{leb-true, not-true, not-false, le-leb, lt-leb, ne_eqb}
use Rattle.model.specs.Questions.{ask}
use Rattle.model.specs.Run.{unless_refused}
use Rattle.model.specs.Image as Image
use Rattle.model.specs.Image.{ME, ST, RN, mark_of, start_size, record_size, number_at, registers_at, delivery_at, has, in_order, memory_allowed, address_allowed, address_new, record_questions, with_record, record_on, whole_record_on}
use Rattle.fields.proofs.MarkLaws.{start_has_registers}
use Rattle.host.specs.declared.record.Registers.{Registers}
use Rattle.host.specs.Record.{registers_of, delivery_of}
use Rattle.loading.specs.declared.Loading.{Loading}
use Rattle.loading.specs.declared.Outcome.TheVariants.{Waits, Next, Ready}
use Rattle.loading.specs.declared.error.LoadError.{LoadError}
use Rattle.fields.specs.declared.rules.Rules.{Rules}
use Rattle.std.specs.Prelude.{Option, Some, None, is_some, is_none, Ok, Err}
use Rattle.loading.specs.View.{rules_of, keeps_words, memory_in, memory_given, registers_given, as_loading, MemoryWithin}
use Rattle.loading.specs.Record.{outcome_image, Goes, StartOf}
use Rattle.loading.proofs.RecordLaws.{number_in_record, delivery_in, loading_front, out_of_order}

take_replicate : (n k : ℕ) (v : ℕ) → n ≤ k → take n (replicate k v) ≡ replicate n v
take_replicate zero k v h = refl
take_replicate (suc n) zero v h = absurd (omega arith)
take_replicate (suc n) (suc k) v h = ap (λ xs. v ∷ xs) (take_replicate n k v (omega arith))

no_words_yet : (n : ℕ) (m : List ℕ) → n ≤ 8192 → m ≡ replicate (length m) 0 → replicate n 0 ≡ memory_in n m
unfolding memory_in keeps_words
no_words_yet n m h z =
    cond_holds (λ (ws : List ℕ). replicate n 0 ≡ ws) (leb 8320 (length m))
    (λ e. sym (ap (take n) z ∙ take_replicate n (length m) 0 (let y = leb-true 8320 (length m) e in omega arith))) (λ _. refl)

none_of : {A : Type 0} (o : Option A) → is_some o ≡ false → o ≡ None
none_of None e = refl
none_of (Some a) e = absurd (true≢false e)

-- whether ME and ST have come
memory_has : (words : Option ℕ) (m : List ℕ) → has (memory_given words m) ≡ is_some words
unfolding has
memory_has None m = refl
memory_has (Some n) m = refl

registers_has : (r : Option Registers) → has (registers_given r) ≡ is_some r
unfolding has
registers_has None = refl
registers_has (Some r) = refl

-- ME
module _ (x : Loading) (m bs : List ℕ) (e : Bool) (is_marked : mark_of bs ≡ some ME) (whole : 6 ≤ length bs) where
  pub second_me : is_some x.words ≡ true → Goes (as_loading x m) bs e (Err LoadError.OutOfPlace) (as_loading x m)
  unfolding as_loading record_size in_order
  second_me h = out_of_order ME x m bs e is_marked whole (λ rest. rw (memory_has x.words m, h))

  module _ (h : is_some x.words ≡ false) (n : ℕ) (q : n ≡ number_at 2 4 bs) where
    size : number_at 2 4 (take 6 bs) ≡ n
    size = number_in_record 6 2 4 bs whole (omega arith) ∙ sym q

    pub me_too_large : 8192 < n → Goes (as_loading x m) bs e (Err LoadError.MemoryTooLarge) (as_loading x m)
    unfolding Goes as_loading outcome_image record_size whole_record_on record_questions in_order memory_allowed ask unless_refused
    me_too_large g rest _ = loading_front ME x m bs is_marked whole rest ∙ rw (memory_has x.words m, h, size, lt-leb _ _ g)

    pub me_loaded : n ≤ 8192 → MemoryWithin x.words m →
        Goes (as_loading x m) bs e (Ok (Next 6)) (as_loading (record { rules = x.rules; words = Some n; registers = x.registers }) m)
    unfolding Goes as_loading outcome_image record_size whole_record_on record_questions in_order memory_allowed address_allowed address_new record_on with_record ask unless_refused
    me_loaded g z rest _ =
        let zeros : replicate {A = ℕ} n 0 ≡ memory_in n m = no_words_yet n m g (rw none_yet at z) in
        loading_front ME x m bs is_marked whole rest ∙ rw (memory_has x.words m, h, size, le-leb _ _ g, zeros)
      where
        none_yet : x.words ≡ None
        none_yet = none_of x.words h

-- ST, of so many bytes as the rules give it
module _ (v : Rules) (n : ℕ) (bs : List ℕ) (sized : n ≡ start_size (rules_of v)) (whole : start_size (rules_of v) ≤ length bs) where
  pub start_length : n ≡ length (take n bs)
  start_length = sym (length-take-le n bs (omega arith))

  pub start_is_whole : start_size (rules_of v) ≤ length (take n bs)
  start_is_whole = let y = start_length in omega arith

  pub start_used : 6 ≤ n
  start_used = let y = start_has_registers v in omega arith

  pub start_within_bytes : n ≤ length bs
  start_within_bytes = omega arith

module _ (x : Loading) (m bs : List ℕ) (e : Bool) (is_marked : mark_of bs ≡ some ST) (whole : start_size (rules_of x.rules) ≤ length bs) where
  pub st_out_of_order : (is_none x.words || is_some x.registers) ≡ true → Goes (as_loading x m) bs e (Err LoadError.OutOfPlace) (as_loading x m)
  unfolding as_loading record_size in_order
  st_out_of_order h =
      out_of_order ST x m bs e is_marked whole (λ rest. rw (memory_has x.words m, registers_has x.registers) (refused x.words x.registers h))
    where
      refused : (words : Option ℕ) (r : Option Registers) → (is_none words || is_some r) ≡ true → (is_some words && not (is_some r)) ≡ false
      refused None r h = refl
      refused (Some n) (Some r) h = refl
      refused (Some n) None h = absurd (false≢true h)

  pub st_loaded : (is_none x.words || is_some x.registers) ≡ false → (size : ℕ) (r : Registers) → size ≡ start_size (rules_of x.rules) →
      registers_of r ≡ registers_at (take size bs) → delivery_of r ≡ delivery_at (rules_of x.rules) (take size bs) →
      Goes (as_loading x m) bs e (Ok (Next size)) (as_loading (record { rules = x.rules; words = x.words; registers = Some r }) m)
  unfolding Goes as_loading outcome_image record_size whole_record_on record_questions in_order memory_allowed address_allowed address_new record_on with_record ask unless_refused
  st_loaded h size r s q d rest _ =
      loading_front ST x m bs is_marked whole rest
      ∙ rw (memory_has x.words m, registers_has x.registers, allowed x.words x.registers h, delivery_in x.rules m, ← s, ← q, ← d)
    where
      allowed : (words : Option ℕ) (r : Option Registers) → (is_none words || is_some r) ≡ false → (is_some words && not (is_some r)) ≡ true
      allowed None r h = absurd (true≢false h)
      allowed (Some n) (Some r) h = absurd (true≢false h)
      allowed (Some n) None h = refl

-- RN
module _ (x : Loading) (m bs : List ℕ) (e : Bool) (is_marked : mark_of bs ≡ some RN) (whole : 6 ≤ length bs) where
  pub rn_before_me : x.words ≡ None → Goes (as_loading x m) bs e (Err LoadError.OutOfPlace) (as_loading x m)
  unfolding as_loading record_size in_order has
  rn_before_me h = out_of_order RN x m bs e is_marked whole (λ rest. rw h)

  module _ (n : ℕ) (h : x.words ≡ Some n) where
    pub rn_before_st : x.registers ≡ None → Goes (as_loading x m) bs e (Err LoadError.OutOfPlace) (as_loading x m)
    unfolding as_loading record_size in_order has
    rn_before_st g = out_of_order RN x m bs e is_marked whole (λ rest. rw (h, g))

    module _ (r : Registers) (g : x.registers ≡ Some r) where
      pub rn_not_last : 6 < length bs → Goes (as_loading x m) bs e (Err LoadError.OutOfPlace) (as_loading x m)
      unfolding as_loading record_size in_order has
      rn_not_last k =
          out_of_order RN x m bs e is_marked whole
          (λ rest. rw (h, g, ne_eqb (length (drop 6 bs ++ rest)) 0 (λ q. let y = length-append (drop 6 bs) rest in let z = length-drop 6 bs in omega arith)))

      pub rn_ends : length bs ≤ 6 → e ≡ true → (b : ℕ) → b ≡ number_at 2 4 bs → Goes (as_loading x m) bs e (Ok (Ready (record { words = n; registers = r; budget = b }))) (as_loading x m)
      unfolding Goes as_loading outcome_image record_size whole_record_on record_questions in_order memory_allowed address_allowed address_new record_on ask has unless_refused
      rn_ends k ended b q rest f =
          let budget : number_at 2 4 (take 6 bs) ≡ b = number_in_record 6 2 4 bs whole (omega arith) ∙ sym q in
          loading_front RN x m bs is_marked whole rest ∙ rw (h, g, f ended, drop_of_length-le bs k, budget)

      pub start_of : (b : ℕ) → StartOf x (record { words = n; registers = r; budget = b })
      start_of b = record { words_given = h; registers_given = g }

pub waits : (l : Image.Loading) (bs : List ℕ) (e : Bool) → Goes l bs e (Ok Waits) l
unfolding Goes outcome_image
waits l bs e rest _ = refl

pub short_run : (bs : List ℕ) → length bs ≤ 6 → length bs < 66
short_run bs h = omega arith

pub ruleset memory_loaded = (second_me, me_too_large, me_loaded)

pub ruleset start_loaded = (not-true, not-false, start_length, start_is_whole, start_used, start_within_bytes, st_out_of_order, st_loaded)

pub ruleset run_loaded = (not-true, not-false, rn_before_me, rn_before_st, rn_not_last, rn_ends, start_of, waits, short_run)
