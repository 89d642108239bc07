-- What the outcome of one record says. Assumes nothing: these are definitions.
use Rattle.std.specs.Prelude.{◌≡◌, Bool, true, false, cond, List, [], ◌++◌, ℕ, ◌-◌, ◌≤◌, ◌<◌, ltb, length, set, take, drop, Option, Some, Result, Ok, Err}
use Rattle.addresses.specs.Set.{in_set}
use Rattle.model.specs.Image as Image
use Rattle.host.specs.declared.record.Registers.{Registers}
use Rattle.fields.specs.declared.rules.Rules.{Rules}
use Rattle.loading.specs.declared.error.LoadError.{LoadError}
use Rattle.loading.specs.declared.Loading.{Loading}
use Rattle.loading.specs.declared.Start.{Start}
use Rattle.loading.specs.declared.Outcome.{Outcome}
use Rattle.loading.specs.declared.Outcome.TheVariants.{Waits, Next, Ready}
use Rattle.loading.specs.Numbers.{load_number}
use Rattle.loading.specs.View.{set_in, as_loading, MemoryWithin, LoadingWithin}

-- the image, by an outcome, what is loaded after it, the bytes it was found in and those that come after them
unfoldable pub outcome_image : Result Outcome LoadError → Image.Loading → (bytes rest : List ℕ) → Image.Image
outcome_image (Err error) l bs rest = Image.refused_image (load_number error)
outcome_image (Ok Waits) l bs rest = Image.image_after l (bs ++ rest)
outcome_image (Ok (Next size)) l bs rest = Image.image_after l (drop size bs ++ rest)
outcome_image (Ok (Ready start)) l bs rest = Image.checked l.delivery (Image.machine_of l) start.budget

-- the outcome is right whatever comes after the bytes; where they are ended, nothing does
unfoldable pub Goes : (before : Image.Loading) → (bytes : List ℕ) → (ended : Bool) → Result Outcome LoadError → (after : Image.Loading) → Type 0
Goes l bs e o k = (rest : List ℕ) → (e ≡ true → rest ≡ []) → Image.image_after l (bs ++ rest) ≡ outcome_image o k bs rest

-- a start has what ME and ST gave
pub record StartOf (l : Loading) (s : Start) : Type 0 where
  pub words_given : l.words ≡ Some s.words
  pub registers_given : l.registers ≡ Some s.registers

-- 66 bytes always make progress, and a loaded record takes six at least
abbrev pub OutcomeWithin : (bytes : List ℕ) → (ended : Bool) → Loading → Result Outcome LoadError → Type 0
OutcomeWithin bs e l (Err error) = Unit {0}
OutcomeWithin bs e l (Ok Waits) = (e ≡ false) × (length bs < 66)
OutcomeWithin bs e l (Ok (Next size)) = (6 ≤ size) × (size ≤ length bs)
OutcomeWithin bs e l (Ok (Ready start)) = (e ≡ true) × StartOf l start

-- only a loaded record changes anything
abbrev pub Kept : Result Outcome LoadError → (before after : Loading) → (memory memory_now : List ℕ) → Type 0
Kept (Err error) l k m m_now = (k ≡ l) × (m_now ≡ m)
Kept (Ok Waits) l k m m_now = (k ≡ l) × (m_now ≡ m)
Kept (Ok (Next size)) l k m m_now = Unit {0}
Kept (Ok (Ready start)) l k m m_now = (k ≡ l) × (m_now ≡ m)

pub record RecordedAs (l : Loading) (m bs : List ℕ) (e : Bool) (x : Result Outcome LoadError) (k : Loading) (m_now : List ℕ) : Type 0 where
  pub size_same : length m_now ≡ length m
  pub within : LoadingWithin k m_now
  pub goes : Goes (as_loading l m) bs e x (as_loading k m_now)
  pub outcome_within : OutcomeWithin bs e k x
  pub kept : Kept x l k m m_now

-- 51 of an address, and what is kept of it: nothing but the set changes, and that only where the answer is yes
pub record Asked51 (v : Image.Rules) (a : ℕ) (m : List ℕ) (answer : Bool) (m_now : List ℕ) : Type 0 where
  pub answered : answer ≡ Image.unless_written v (in_set (set_in m) a)
  pub memory_same : take (length m - 128) m_now ≡ take (length m - 128) m
  pub size_same : length m_now ≡ length m
  pub set_now : answer ≡ true → in_set (set_in m_now) ≡ Image.with_written v a (in_set (set_in m))
  pub kept : answer ≡ false → m_now ≡ m

-- a word in its place, where the store has memory
unfoldable pub word_put : (address word : ℕ) → (store : List ℕ) → List ℕ
word_put a v m = cond (ltb 128 (length m)) (set m a v) m

-- WD by what it looks at of the records so far, whatever the rest is
abbrev pub word_outcome : {A : Type 0} → Result A LoadError → Result Outcome LoadError
word_outcome (Ok _) = Ok (Next 14)
word_outcome (Err error) = Err error

abbrev pub KeptUnlessTaken : {A : Type 0} → Result A LoadError → (store store_now : List ℕ) → Type 0
KeptUnlessTaken (Ok _) m m_now = Unit {0}
KeptUnlessTaken (Err error) m m_now = m_now ≡ m

pub record WordTaken {A : Type 0} (v : Rules) (words : Option ℕ) (m bs : List ℕ) (x : Result A LoadError) (m_now : List ℕ) : Type 0 where
  pub size_same : length m_now ≡ length m
  pub memory_within : MemoryWithin words m_now
  pub goes : (r : Option Registers) (e : Bool) →
      let l : Loading = record { rules = v; words = words; registers = r } in
      Goes (as_loading l m) bs e (word_outcome x) (as_loading l m_now)
  pub kept : KeptUnlessTaken x m m_now

-- a record that doesn't ask whether more bytes come, and changes nothing but the store
abbrev pub RecordedInStore : Loading → (store bytes : List ℕ) → Result Outcome LoadError → (store_now : List ℕ) → Type 0
RecordedInStore l m bs x m_now = (e : Bool) → RecordedAs l m bs e x l m_now

-- one that writes no word, whatever is lent
abbrev pub RecordedWithAnyMemory : Loading → (bytes : List ℕ) → (ended : Bool) → Result Outcome LoadError → (after : Loading) → Type 0
RecordedWithAnyMemory l bs e x k = (m : List ℕ) → LoadingWithin l m → RecordedAs l m bs e x k m

-- and one of both kinds
abbrev pub RecordedByItself : Loading → (bytes : List ℕ) → Result Outcome LoadError → (after : Loading) → Type 0
RecordedByItself l bs x k = (e : Bool) → RecordedWithAnyMemory l bs e x k
