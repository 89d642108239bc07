-- What the outcome of loading records one after another says. Assumes nothing: these are definitions.
use Rattle.std.specs.Prelude.{◌≡◌, Bool, true, false, List, ℕ, ◌-◌, ◌≤◌, ◌<◌, length, Result, Ok, Err}
use Rattle.std.proofs.Math.Option.{some}
use Rattle.model.specs.Image as Image
use Rattle.loading.specs.declared.Loading.{Loading}
use Rattle.loading.specs.declared.Outcome.{Outcome}
use Rattle.loading.specs.declared.error.LoadError.{LoadError}
use Rattle.image.specs.declared.load.LoadOutcome.{LoadOutcome}
use Rattle.image.specs.declared.load.LoadOutcome.TheVariants.{More, Ready}
use Rattle.loading.specs.View.{as_loading, LoadingWithin}
use Rattle.loading.specs.Record.{Goes, StartOf}

-- l and m before the first record; `at` bytes are used, and k and its store are what they left
pub record LoadedSoFar (l : Loading) (m bs : List ℕ) (e : Bool) (at : ℕ) (k : Loading) (m_now : List ℕ) : Type 0 where
  pub in_bytes : at ≤ length bs
  pub same_length : length m_now ≡ length m
  pub within : LoadingWithin k m_now
  pub goes : Goes (as_loading l m) bs e (Ok (Outcome.Next at)) (as_loading k m_now)

-- a yes says that a whole WD record stands in front
abbrev pub WordIf : Bool → (bytes : List ℕ) → Type 0
WordIf true bs = (Image.mark_of bs ≡ some Image.WD) × (14 ≤ length bs)
WordIf false bs = Unit {0}

-- one WD record in front, or nothing changed
pub record WordLoaded (l : Loading) (m bs : List ℕ) (n : ℕ) (m_now : List ℕ) : Type 0 where
  pub in_bytes : n ≤ length bs
  pub same_length : length m_now ≡ length m
  pub within : LoadingWithin l m_now
  pub goes : (e : Bool) → Goes (as_loading l m) bs e (Ok (Outcome.Next n)) (as_loading l m_now)
  pub some_bytes : (n ≡ 0 → ⊥) → 6 ≤ n
  pub none_same : n ≡ 0 → m_now ≡ m

-- WD records alone, whatever comes after them
pub record WordsLoaded (l : Loading) (m bs : List ℕ) (n : ℕ) (m_now : List ℕ) : Type 0 where
  pub so_far : (e : Bool) → LoadedSoFar l m bs e n l m_now
  pub some_bytes : (n ≡ 0 → ⊥) → 6 ≤ n
  pub none_same : n ≡ 0 → m_now ≡ m

-- records one after another are as one of all their bytes
abbrev pub as_outcome : Result LoadOutcome LoadError → Result Outcome LoadError
as_outcome (Err error) = Err error
as_outcome (Ok (More used)) = Ok (Outcome.Next used)
as_outcome (Ok (Ready start)) = Ok (Outcome.Ready start)

-- fewer than 66 bytes are left over
abbrev pub LoadOutcomeWithin : (bytes : List ℕ) → (ended : Bool) → Loading → Result LoadOutcome LoadError → Type 0
LoadOutcomeWithin bs e l (Err error) = Unit {0}
LoadOutcomeWithin bs e l (Ok (More used)) = (e ≡ false) × (used ≤ length bs) × (length bs - used < 66)
LoadOutcomeWithin bs e l (Ok (Ready start)) = (e ≡ true) × StartOf l start

pub record LoadedAs (l : Loading) (m bs : List ℕ) (e : Bool) (x : Result LoadOutcome LoadError) (k : Loading) (m_now : List ℕ) : Type 0 where
  pub size_same : length m_now ≡ length m
  pub within : LoadingWithin k m_now
  pub goes : Goes (as_loading l m) bs e (as_outcome x) (as_loading k m_now)
  pub outcome_within : LoadOutcomeWithin bs e k x
