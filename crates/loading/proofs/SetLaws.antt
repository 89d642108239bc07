-- 51, and the set at the end of the store. Assumes nothing.
use mathlib.Core.Path.{◌≡◌, refl, sym, ◌∙◌, ap, fun_ext}
use mathlib.Core.Bool.{Bool, true, false, ◌||◌, true≢false, false≢true}
use mathlib.Core.List.{List, ◌++◌, append-nil}
use mathlib.Core.Logic.{◌⊎◌, inl, inr}
use Prim.Native.Nat.{ℕ, ◌-◌, ◌≤◌, ◌<◌}
use native.Mathlib.Omega.{arith}
use lib.Dec.{eqb}
use lib.ListN.{length, take, drop, length-drop, drop_of_length-le}
use lib.Seq.{length-take-le, take_all, take_at, drop_at}
use borrow.Rule.Slice.PartMut.{put_mid, same_len_mid}
use Rattle.model.specs.Image.{unless_written, with_written}
use Rattle.addresses.specs.Set.{in_set, PutIn}
use Rattle.fields.specs.declared.rules.Rules.{Rules}
use Rattle.fields.specs.declared.rules.Rules.TheVariants.{Today, Stored}
use Rattle.loading.specs.View.{rules_of, set_in, StoreSized}
use Rattle.loading.specs.Record.{Asked51}
use Rattle.loading.proofs.RecordLaws.{has_set}

-- A PART put back at a list's end
module _ (b : ℕ) (m s : List ℕ) (h : b ≤ length m) where
  front_of_put : take b (put_mid b (length m - b) m s) ≡ take b m
  front_of_put = take_at (take b m) _ b (length-take-le b m h)

  end_of_put : drop b (put_mid b (length m - b) m s) ≡ s
  end_of_put =
      drop_at (take b m) _ b (length-take-le b m h)
      ∙ ap (λ xs. s ++ xs) (drop_of_length-le (drop b m) {i = length m - b} (let z = length-drop b m in omega arith)) ∙ append-nil s

module _ (v : Rules) (a : ℕ) (m : List ℕ) where
  pub stored_asks_nothing : v ≡ Stored → Asked51 (rules_of v) a m true m
  unfolding rules_of unless_written with_written
  stored_asks_nothing e =
      record { answered = rw e refl; memory_same = refl; size_same = refl; set_now = λ _. rw e refl; kept = λ f. absurd (true≢false f) }

  -- the end of the store, as a part of it
  module _ (at : ℕ) (q : at ≡ length m - 128) where
    abbrev the_set : List ℕ
    the_set = take (length m - at) (drop at m)

    set_is_end : the_set ≡ set_in m
    unfolding set_in
    set_is_end = take_all (length m - at) (drop at m) (let z = length-drop at m in omega arith) ∙ ap (λ n. drop n m) q

    module _ (sized : StoreSized v (length m)) where
      pub set_size : length the_set ≡ 128
      unfolding set_in
      set_size = ap length set_is_end ∙ length-drop (length m - 128) m ∙ (let h = has_set v m sized in omega arith)

      pub set_within : at ≤ length m
      set_within = omega arith

    module _ (e : v ≡ Today) (r : Bool) (is : r ≡ in_set the_set a) where
      found : in_set (set_in m) a ≡ r
      found = ap (λ s. in_set s a) (sym set_is_end) ∙ sym is

      pub written_before : r ≡ true → Asked51 (rules_of v) a m false m
      unfolding rules_of unless_written
      written_before w =
          record { answered = rw (e, found, w) refl; memory_same = refl; size_same = refl; set_now = λ f. absurd (false≢true f); kept = λ _. refl }

      module _ (w : r ≡ false) (s : List ℕ) (p : PutIn a the_set s) where
        now_in : in_set s ≡ (λ b. eqb a b || in_set (set_in m) b)
        now_in = fun_ext (λ b. p.members b ∙ ap (λ t. eqb a b || in_set t b) set_is_end)

        length_put : length (put_mid at (length m - at) m s) ≡ length m
        length_put = same_len_mid at (length m - at) m s p.size_same

        set_put : set_in (put_mid at (length m - at) m s) ≡ s
        unfolding set_in
        set_put =
            ap (λ n. drop n (put_mid at (length m - at) m s)) (ap (λ n. n - 128) length_put ∙ sym q) ∙ end_of_put at m s (omega arith)

        pub new_put : Asked51 (rules_of v) a m true (put_mid at (length m - at) m s)
        unfolding rules_of unless_written with_written
        new_put =
            record {
              answered = rw (e, found, w) refl;
              memory_same = rw (← q) (front_of_put at m s (omega arith));
              size_same = length_put;
              set_now = λ _. ap in_set set_put ∙ now_in ∙ rw e refl;
              kept = λ f. absurd (true≢false f);
            }

pub ruleset asks_51 = (has_set, stored_asks_nothing, set_size, set_within, written_before, new_put)

-- WHERE IT STARTS
module _ (v : Rules) (m : List ℕ) (s : StoreSized v (length m)) where
  pub after_memory : 128 < length m → 8192 ≡ length m - 128
  unfolding StoreSized
  after_memory h = by_size s
    where
      by_size : (length m ≡ 8320) ⊎ ((length m ≡ 128) × (v ≡ Today)) → 8192 ≡ length m - 128
      by_size (inl e) = omega arith
      by_size (inr e) = absurd (let q = e.0 in omega arith)

  pub at_front : length m ≤ 128 → 0 ≡ length m - 128
  at_front h = omega arith

pub ruleset starts = (after_memory, at_front)
