-- What is kept from piece to piece, in a buffer of its size with five bytes more for ST. Assumes nothing: these are definitions.
use Rattle.std.specs.Prelude.{◌≡◌, List, ℕ, ◌+◌, ◌≤◌, length, Result, Ok, Err}
use Rattle.loading.specs.declared.Loading.{Loading}
use Rattle.loading.specs.View.{LoadingWithin}
use Rattle.convert.specs.declared.Progress.{Progress}
use Rattle.convert.specs.declared.Progress.TheVariants.{Reads, Ready}
use Rattle.convert.specs.declared.Room.{Room}
use Rattle.convert.specs.declared.error.ConvertError.{ConvertError}

pub record RoomLeft (r : Room) (t u : List ℕ) : Type 0 where
  pub kept_within : r.kept ≤ r.size
  pub size_within : r.size + 5 ≤ length u
  pub size_same : length u ≡ length t

pub record TurnWithin (l : Loading) (r : Room) (store buffer : List ℕ) : Type 0 where
  pub within : LoadingWithin l store
  pub store_size : length store ≡ 8320
  pub kept_within : r.kept ≤ r.size
  pub size_within : r.size + 5 ≤ length buffer

-- after a piece the next may be read, or the new image is the front of the buffer
abbrev pub WithinAfter : Result Progress ConvertError → Loading → (store buffer : List ℕ) → Type 0
WithinAfter (Err e) l m u = Unit {0}
WithinAfter (Ok (Reads r)) l m u = TurnWithin l r m u
WithinAfter (Ok (Ready n)) l m u = n ≤ length u
