-- What loading a piece of an image says, with the bytes that it keeps. Assumes nothing: these are definitions.
use Rattle.std.specs.Prelude.{◌≡◌, Bool, true, false, List, [], ◌++◌, ℕ, ◌<◌, length, take, Result, Ok, Err}
use Rattle.model.specs.Image as Image
use Rattle.loading.specs.declared.Loading.{Loading}
use Rattle.image.specs.declared.load.LoadOutcome.{LoadOutcome}
use Rattle.image.specs.declared.load.LoadOutcome.TheVariants.{More, Ready}
use Rattle.loading.specs.declared.error.LoadError.{LoadError}
use Rattle.loading.specs.Numbers.{load_number}
use Rattle.loading.specs.Record.{StartOf}
use Rattle.loading.specs.View.{as_loading, LoadingWithin}

-- the image, by an outcome, what is loaded after it, the buffer and the bytes that come after what it keeps
unfoldable pub piece_image : Result LoadOutcome LoadError → Image.Loading → (buffer rest : List ℕ) → Image.Image
piece_image (Err error) l buffer rest = Image.refused_image (load_number error)
piece_image (Ok (More kept)) l buffer rest = Image.image_after l (take kept buffer ++ rest)
piece_image (Ok (Ready start)) l buffer rest = Image.checked l.delivery (Image.machine_of l) start.budget

-- the outcome is right whatever comes after the piece, so that an image in pieces is loaded as it is whole; fewer than 66 bytes are kept
unfoldable pub PieceGoes : (before : Image.Loading) → (piece : List ℕ) → (ended : Bool) → Result LoadOutcome LoadError → (after : Image.Loading) → (buffer : List ℕ) → Type 0
PieceGoes l bs e o k buffer = (rest : List ℕ) → (e ≡ true → rest ≡ []) → Image.image_after l (bs ++ rest) ≡ piece_image o k buffer rest

abbrev pub PieceWithin : (ended : Bool) → Loading → Result LoadOutcome LoadError → Type 0
PieceWithin e l (Err error) = Unit {0}
PieceWithin e l (Ok (More kept)) = (e ≡ false) × (kept < 66)
PieceWithin e l (Ok (Ready start)) = (e ≡ true) × StartOf l start

pub record PieceLoaded (l : Loading) (m piece : List ℕ) (e : Bool) (x : Result LoadOutcome LoadError) (k : Loading) (m_now buffer_now : List ℕ) : Type 0 where
  pub size_same : length m_now ≡ length m
  pub within : LoadingWithin k m_now
  pub goes : PieceGoes (as_loading l m) piece e x (as_loading k m_now) buffer_now
  pub outcome_within : PieceWithin e k x
