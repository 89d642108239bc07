-- Two runs in lockstep, over any state S, fault F and step: as far as alike states step alike, the runs are alike. Nothing here knows of rings. Assumes nothing.
use mathlib.Core.Path.{◌≡◌, refl, ap, ap₂}
use mathlib.Core.Bool.{Bool, true, false, cond}
use mathlib.Core.List.{List, [], ◌∷◌}
use Prim.Native.Nat.{ℕ, zero, suc, ◌≤◌, ◌<◌}
use native.Mathlib.Omega.{arith}
use Rattle.model.proofs.BranchLaws.{cond_rel}

-- what a step comes to
pub data Next (S F : Type 0) : Type 0 where
  stops : F → Next S F
  goes_on : S → Next S F
  ends : S → Next S F

pub data End (F : Type 0) : Type 0 where
  spent : End F
  halted : End F
  fault : F → End F

pub record Ran (S F : Type 0) : Type 0 where
  pub end : End F
  pub count : ℕ
  pub state : S

-- A: two states are alike
pub data AlikeNext {S F : Type 0} (A : S → S → Type 0) : Next S F → Next S F → Type 0 where
  both_stop : (f : F) → AlikeNext A (stops f) (stops f)
  both_go_on : {x y : S} → A x y → AlikeNext A (goes_on x) (goes_on y)
  both_end : {x y : S} → A x y → AlikeNext A (ends x) (ends y)

pub record AlikeRan {S F : Type 0} (A : S → S → Type 0) (x y : Ran S F) : Type 0 where
  pub same_end : x.end ≡ y.end
  pub same_count : x.count ≡ y.count
  pub alike_state : A x.state y.state

module _ {S F : Type 0} (step : S → Next S F) where
  unfoldable pub run_on : (count : ℕ) → S → Next S F → (S → Ran S F) → Ran S F
  run_on c x (stops f) g = record { end = fault f; count = c; state = x }
  run_on c x (ends y) g = record { end = halted; count = suc c; state = y }
  run_on c x (goes_on y) g = g y

  unfoldable pub run_from : (left count : ℕ) → S → Ran S F
  run_from zero c x = record { end = spent; count = c; state = x }
  run_from (suc n) c x = run_on c x (step x) (λ y. run_from n (suc c) y)

  -- a note of each step, by what stood before it and after it
  unfoldable pub notes_on : {N : Type 0} → (note : (before after : S) → N) → S → Next S F → (S → List N) → List N
  notes_on note x (stops f) g = []
  notes_on note x (ends y) g = note x y ∷ []
  notes_on note x (goes_on y) g = note x y ∷ g y

  unfoldable pub notes_from : {N : Type 0} → (note : (before after : S) → N) → (left : ℕ) → S → List N
  notes_from note zero x = []
  notes_from note (suc n) x = notes_on note x (step x) (λ y. notes_from note n y)

  module _ (inside leaves : S → Bool) where
    -- the stretch: the steps up to and with the first that ends outside, or before the first that leaves; the budget where there is none
    unfoldable pub stretch_on : (left : ℕ) → Next S F → (S → ℕ) → ℕ
    stretch_on b (stops f) g = suc b
    stretch_on b (ends y) g = cond (inside y) (suc b) 1
    stretch_on b (goes_on y) g = cond (inside y) (suc (g y)) 1

    unfoldable pub stretch : (budget : ℕ) → S → ℕ
    stretch zero x = 0
    stretch (suc b) x = cond (leaves x) 0 (stretch_on b (step x) (λ y. stretch b y))

    -- where there is a step in the stretch, it doesn't leave
    stays : (j b : ℕ) (x : S) → suc j ≤ stretch (suc b) x → (leaves x ≡ false) × (suc j ≤ stretch_on b (step x) (λ y. stretch b y))
    unfolding stretch
    stays j b x = by_test (leaves x)
      where
        by_test : (t : Bool) → suc j ≤ cond t 0 (stretch_on b (step x) (λ y. stretch b y)) → (t ≡ false) × (suc j ≤ stretch_on b (step x) (λ y. stretch b y))
        by_test true h = absurd (omega arith)
        by_test false h = (refl, h)

    -- before each step of the stretch the state is inside
    pub inside_before : (j b c : ℕ) (x : S) → inside x ≡ true → j < stretch b x → inside (run_from j c x).state ≡ true
    unfolding run_from run_on stretch_on
    inside_before zero b c x e h = e
    inside_before (suc j) zero c x e h = absurd (unfold stretch in omega arith)
    inside_before (suc j) (suc b) c x e h = by_next (step x) (stays (suc j) b x h).1 (λ y q l. inside_before j b (suc c) y q l)
      where
        -- a step that ends outside is the stretch's last
        last_outside : (y : S) (n : ℕ) → suc j < cond (inside y) (suc n) 1 → (inside y ≡ true) × (j < n)
        last_outside y n = by_test (inside y)
          where
            by_test : (t : Bool) → suc j < cond t (suc n) 1 → (t ≡ true) × (j < n)
            by_test true l = (refl, omega arith)
            by_test false l = absurd (omega arith)

        by_next : (p : Next S F) → suc j < stretch_on b p (λ y. stretch b y) →
            ((y : S) → inside y ≡ true → j < stretch b y → inside (run_from j (suc c) y).state ≡ true) →
            inside (run_on c x p (λ y. run_from j (suc c) y)).state ≡ true
        by_next (stops f) i ih = e
        by_next (ends y) i ih = (last_outside y b i).0
        by_next (goes_on y) i ih = let z = last_outside y (stretch b y) i in ih y z.0 z.1

    module _ (A : S → S → Type 0) (law : (x y : S) → A x y → inside x ≡ true → leaves x ≡ false → AlikeNext A (step x) (step y))
        (same_inside : (x y : S) → A x y → inside x ≡ inside y) (same_leaves : (x y : S) → A x y → inside x ≡ true → leaves x ≡ leaves y) where
      same_stretch_on : (b : ℕ) {p q : Next S F} → AlikeNext A p q →
          ((x y : S) → A x y → inside x ≡ true → stretch b x ≡ stretch b y) →
          stretch_on b p (λ y. stretch b y) ≡ stretch_on b q (λ y. stretch b y)
      unfolding stretch_on
      same_stretch_on b (both_stop f) ih = refl
      same_stretch_on b (both_end a) ih = ap (λ t. cond t (suc b) 1) (same_inside _ _ a)
      same_stretch_on b (both_go_on a) ih = cond_rel ◌≡◌ (same_inside _ _ a) (λ e. ap suc (ih _ _ a e)) (λ e. refl)

      pub same_stretch : (b : ℕ) (x y : S) → A x y → inside x ≡ true → stretch b x ≡ stretch b y
      unfolding stretch
      same_stretch zero x y a e = refl
      same_stretch (suc b) x y a e =
          cond_rel ◌≡◌ (same_leaves x y a e) (λ _. refl) (λ q. same_stretch_on b (law x y a e q) (λ u v w i. same_stretch b u v w i))

      -- a run of no steps
      alike_at_once : (j c : ℕ) (x y : S) → A x y → j ≤ 0 → AlikeRan A (run_from j c x) (run_from j c y)
      unfolding run_from
      alike_at_once zero c x y a h = record { same_end = refl; same_count = refl; alike_state = a }
      alike_at_once (suc j) c x y a h = absurd (omega arith)

      alike_run_on : (j b c : ℕ) (x y : S) → A x y → {p q : Next S F} → AlikeNext A p q → suc j ≤ stretch_on b p (λ z. stretch b z) →
          ((u v : S) → A u v → inside u ≡ true → j ≤ stretch b u → AlikeRan A (run_from j (suc c) u) (run_from j (suc c) v)) →
          AlikeRan A (run_on c x p (λ z. run_from j (suc c) z)) (run_on c y q (λ z. run_from j (suc c) z))
      unfolding run_on stretch_on
      alike_run_on j b c x y a (both_stop f) h ih = record { same_end = refl; same_count = refl; alike_state = a }
      alike_run_on j b c x y a (both_end w) h ih = record { same_end = refl; same_count = refl; alike_state = w }
      alike_run_on j b c x y a (both_go_on {x = u} {y = v} w) h ih = by_test (inside u) refl h
        where
          by_test : (t : Bool) → inside u ≡ t → suc j ≤ cond t (suc (stretch b u)) 1 → AlikeRan A (run_from j (suc c) u) (run_from j (suc c) v)
          by_test true e i = ih u v w e (omega arith)
          by_test false e i = alike_at_once j (suc c) u v w (omega arith)

      -- after each step of the stretch, its last one too
      pub alike_within : (j b c : ℕ) (x y : S) → A x y → inside x ≡ true → j ≤ stretch b x → AlikeRan A (run_from j c x) (run_from j c y)
      unfolding run_from
      alike_within zero b c x y a e h = record { same_end = refl; same_count = refl; alike_state = a }
      alike_within (suc j) zero c x y a e h = absurd (unfold stretch in omega arith)
      alike_within (suc j) (suc b) c x y a e h =
          let s = stays j b x h in alike_run_on j b c x y a (law x y a e s.0) s.1 (λ u v w i g. alike_within j b (suc c) u v w i g)

      -- and one list of notes, where a step of alike states is noted alike
      module _ {N : Type 0} (note : (before after : S) → N)
          (same_note : (x y u v : S) → A x y → inside x ≡ true → A u v → note x u ≡ note y v) where
        same_notes_on : (j b : ℕ) (x y : S) → A x y → inside x ≡ true → {p q : Next S F} → AlikeNext A p q → suc j ≤ stretch_on b p (λ z. stretch b z) →
            ((u v : S) → A u v → inside u ≡ true → j ≤ stretch b u → notes_from note j u ≡ notes_from note j v) →
            notes_on note x p (λ z. notes_from note j z) ≡ notes_on note y q (λ z. notes_from note j z)
        unfolding notes_from notes_on stretch_on
        same_notes_on j b x y a e (both_stop f) h ih = refl
        same_notes_on j b x y a e (both_end w) h ih = ap (λ z. z ∷ []) (same_note _ _ _ _ a e w)
        same_notes_on j b x y a e (both_go_on {x = u} {y = v} w) h ih = ap₂ ◌∷◌ (same_note _ _ _ _ a e w) (by_test (inside u) refl h)
          where
            no_notes : (j : ℕ) → j ≤ 0 → notes_from note j u ≡ notes_from note j v
            no_notes zero l = refl
            no_notes (suc j) l = absurd (omega arith)

            by_test : (t : Bool) → inside u ≡ t → suc j ≤ cond t (suc (stretch b u)) 1 → notes_from note j u ≡ notes_from note j v
            by_test true q l = ih u v w q (omega arith)
            by_test false q l = no_notes j (omega arith)

        pub same_notes : (j b : ℕ) (x y : S) → A x y → inside x ≡ true → j ≤ stretch b x → notes_from note j x ≡ notes_from note j y
        unfolding notes_from
        same_notes zero b x y a e h = refl
        same_notes (suc j) zero x y a e h = absurd (unfold stretch in omega arith)
        same_notes (suc j) (suc b) x y a e h =
            let s = stays j b x h in same_notes_on j b x y a e (law x y a e s.0) s.1 (λ u v w i g. same_notes j b u v w i g)
