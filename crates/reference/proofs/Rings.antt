-- 03's third promise, from ours: demand 3 as `secrecy` states it says at least as much. Assumes nothing.
use mathlib.Core.Path.{◌≡◌, refl, sym, ◌∙◌, ap, ap₂, subst, subst₂}
use mathlib.Core.Bool.{Bool, true, false, ◌&&◌, ◌||◌}
use mathlib.Core.List.{List}
use Prim.Native.Nat.{ℕ, ◌≤◌, ◌<◌}
use lib.Dec.{ltb}
use lib.ListN.{length, get_or, get_or-eq_default}
use borrow.Author.Tests.{ltb-true, ltb-false, lt-ltb}
use Rattle.model.specs.Registers.{no_delivery, machine}
use Rattle.model.specs.Reach.{is_descriptor_word, observable, writable}
use Rattle.model.specs.Run.{run, after, stretch}
use Rattle.model.proofs.BranchLaws.{and_left, and_right}
use Rattle.secrecy.specs.Statement.{Agree, DescriptorsUnwritable, Alike}
use Rattle.secrecy.proofs.RingsHold.{rings_hold}
use Rattle.reference.specs.Machine as Machine03
use Rattle.reference.specs.Step as Step03
use Rattle.reference.specs.Run as Run03
use Rattle.reference.specs.Promise as Promise03
use Rattle.reference.specs.View as View
use Rattle.reference.proofs.Start.{views_cover}
use Rattle.reference.proofs.Runs.{run_back}
use Rattle.reference.proofs.Stretches.{stretch_equal}
use Rattle.reference.proofs.Reaches.{reach_equal}

-- a stretch of 03, of any machine, as one of the model; and the reply of its run
stretch_back : (n b : ℕ) (m : Step03.Machine) → stretch no_delivery n b (View.model_machine m) ≡ Promise03.stretch n b m
stretch_back n b m = stretch_equal n b (View.model_machine m) ∙ ap (λ (k : Step03.Machine). Promise03.stretch n b k) (views_cover m)

reply_back : (n b : ℕ) (m : Step03.Machine) →
    View.reply (run no_delivery (stretch no_delivery n b (View.model_machine m)) (View.model_machine m)).reply ≡ (Run03.run (Promise03.stretch n b m) m).reply
reply_back n b m =
    ap (λ (x : Run03.Ran). x.reply) (run_back m (stretch no_delivery n b (View.model_machine m))) ∙ ap (λ j. (Run03.run j m).reply) (stretch_back n b m)

-- the words that it judges, likewise
reachable_back : (n : ℕ) (m : Step03.Machine) (x : ℕ) → observable n (View.model_machine m) x ≡ Promise03.reachable n m.regs m.mem x
reachable_back n m x =
    (reach_equal n (View.model_machine m) x).0 ∙ ap (λ (k : Step03.Machine). Promise03.reachable n k.regs k.mem x) (views_cover m)

writable_back : (n : ℕ) (m : Step03.Machine) (x : ℕ) → writable n (View.model_machine m) x ≡ Promise03.writable n m.regs m.mem x
writable_back n m x =
    (reach_equal n (View.model_machine m) x).1 ∙ ap (λ (k : Step03.Machine). Promise03.writable n k.regs k.mem x) (views_cover m)

descriptor_words_back : (m : Step03.Machine) (x : ℕ) →
    is_descriptor_word (View.model_machine m) x ≡ (ltb x (length m.mem) && Promise03.is_descriptor_word m.regs x)
unfolding is_descriptor_word Promise03.is_descriptor_word
descriptor_words_back m x = refl

module _ (n : ℕ) (r : Machine03.Regs) (m : List ℕ) where
  abbrev start : Step03.Machine
  start = record { regs = r; mem = m }

  -- of a word within memory both ask the same
  judged_equal : (x : ℕ) → x < length m →
      (is_descriptor_word (View.model_machine start) x || observable n (View.model_machine start) x)
      ≡ (Promise03.is_descriptor_word r x || Promise03.reachable n r m x)
  judged_equal x h =
      ap₂ ◌||◌ (descriptor_words_back start x ∙ ap (λ t. t && Promise03.is_descriptor_word r x) (lt-ltb x (length m) h)) (reachable_back n start x)

  -- past the end of both memories every word is 0
  agree_model : (k : List ℕ) → length m ≡ length k → Promise03.Agree n r m m k → Agree n (View.model_machine start) m k
  unfolding Agree Promise03.Agree Promise03.agree_at
  agree_model k e agree x o = by_test (ltb x (length m)) refl
    where
      by_test : (t : Bool) → ltb x (length m) ≡ t → get_or m x 0 ≡ get_or k x 0
      by_test true h = agree x (ltb-true x (length m) h) (sym (judged_equal x (ltb-true x (length m) h)) ∙ o)
      by_test false h =
          let past = ltb-false x (length m) h in
          get_or-eq_default m 0 past ∙ sym (get_or-eq_default k 0 (subst (λ l. l ≤ x) e past))

  agree_03 : (p q : List ℕ) → Agree n (View.model_machine start) p q → Promise03.Agree n r m p q
  unfolding Agree Promise03.Agree Promise03.agree_at
  agree_03 p q agree x h o = agree x (judged_equal x h ∙ o)

  closed_model : Promise03.Closed n r m → DescriptorsUnwritable n (View.model_machine start)
  unfolding DescriptorsUnwritable Promise03.Closed
  closed_model closed x o =
      let both = sym (descriptor_words_back start x) ∙ o in
      writable_back n start x ∙ closed x (ltb-true x (length m) (and_left (ltb x (length m)) _ both)) (and_right (ltb x (length m)) _ both)

  alike_03 : (b : ℕ) (k : List ℕ) → Alike no_delivery n b (View.registers r) m k → Promise03.Alike n b r m k
  unfolding machine after
  alike_03 b k alike =
      let other : Step03.Machine = record { regs = r; mem = k } in
      let within : (j : ℕ) → j ≤ Promise03.stretch n b start → j ≤ stretch no_delivery n b (View.model_machine start) =
      λ j. subst (λ s. j ≤ s) (sym (stretch_back n b start)) in
      record {
        same_long = sym (stretch_back n b start) ∙ alike.same_stretch ∙ stretch_back n b other;
        same_reply = sym (reply_back n b start) ∙ ap View.reply alike.same_reply ∙ reply_back n b other;
        same_regs = λ j h.
            subst₂ (λ (x y : Run03.Ran). x.machine.regs ≡ y.machine.regs) (run_back start j) (run_back other j)
            (ap View.regs (alike.same_registers j (within j h)));
        same_words = λ j h.
            subst₂ (λ (x y : Run03.Ran). Promise03.Agree n r m x.machine.mem y.machine.mem) (run_back start j) (run_back other j)
            (agree_03 _ _ (alike.same_words j (within j h)));
        unchanged = λ j x h l o.
            subst₂ (λ (y z : Run03.Ran). (get_or y.machine.mem x 0 ≡ get_or m x 0) × (get_or z.machine.mem x 0 ≡ get_or k x 0)) (run_back start j) (run_back other j)
            (alike.unchanged j x (within j h) (writable_back n start x ∙ o));
      }

-- 03's other hypotheses (n at most 7, the budget, A, the number of PRs, words of 64 bits) aren't needed
pub rings_hold_03 : Promise03.RingsHold
unfolding Promise03.RingsHold machine
rings_hold_03 n b r m k one seven budget a prs in_ring words_m words_k same_length agree closed =
    alike_03 n r m b k
    (rings_hold no_delivery n b (View.registers r) m k one in_ring same_length (agree_model n r m k same_length agree) (closed_model n r m closed))
