-- What converting a piece of a stored image says. Assumes nothing: these are definitions.
use Rattle.std.specs.Prelude.{◌≡◌, Bool, true, false, List, [], ◌++◌, ℕ, ◌+◌, ◌-◌, ◌≤◌, ◌<◌, length, take, drop, Result, Ok, Err}
use Rattle.model.specs.Registers.{Delivery, Machine}
use Rattle.model.specs.Image as Image
use Rattle.model.specs.Listing.{refusal_line}
use Rattle.model.specs.Convert.{convert_after}
use Rattle.loading.specs.declared.Loading.{Loading}
use Rattle.loading.specs.View.{as_loading, LoadingWithin}
use Rattle.image.specs.Numbers.{image_number}
use Rattle.image.specs.declared.error.ImageError.{ImageError}
use Rattle.compaction.specs.Renewed.{Renewed}
use Rattle.conversion.specs.declared.ConvertOutcome.{ConvertOutcome}
use Rattle.conversion.specs.declared.ConvertOutcome.TheVariants.{More, Ready}

-- of a buffer's first bytes those after the ones that were loaded
abbrev pub waiting : (kept size : ℕ) → (buffer : List ℕ) → List ℕ
waiting kept size t = take (size - kept) (drop kept t)

-- the image that the records so far and more bytes give, by the outcome: refused, the same with more records loaded, or accepted
unfoldable pub JudgedAs : Result ConvertOutcome ImageError → Image.Image → (after : Image.Loading) → (size : ℕ) → (buffer rest : List ℕ) → Type 0
JudgedAs (Err error) i k size t rest = i ≡ Image.refused_image (image_number error)
JudgedAs (Ok (More n)) i k size t rest = i ≡ Image.image_after k (waiting n size t ++ rest)
JudgedAs (Ok (Ready n)) i k size t rest = (v : Delivery) × ((m : Machine) × ((b : ℕ) × (i ≡ Image.loaded v m b)))

-- right whatever comes after the piece
unfoldable pub PieceJudged : (before : Image.Loading) → (buffer : List ℕ) → (kept size : ℕ) → (ended : Bool) → Result ConvertOutcome ImageError → (after : Image.Loading) → Type 0
PieceJudged l t kept size e o k = (rest : List ℕ) → (e ≡ true → rest ≡ []) → JudgedAs o (Image.image_after l (waiting kept size t ++ rest)) k size t rest

-- the buffer changes only where the image is accepted: then its front is the new one
unfoldable pub BufferAfter : Result ConvertOutcome ImageError → (size : ℕ) → (buffer buffer_now : List ℕ) → Type 0
BufferAfter (Err error) size t u = u ≡ t
BufferAfter (Ok (More n)) size t u = u ≡ t
BufferAfter (Ok (Ready n)) size t u = Renewed size t n u

-- fewer than 66 bytes wait
unfoldable pub PieceWithin : (kept size : ℕ) → (ended : Bool) → Result ConvertOutcome ImageError → Type 0
PieceWithin kept size e (Err error) = Unit {0}
PieceWithin kept size e (Ok (More n)) = (e ≡ false) × (kept ≤ n) × (n ≤ size) × (size - n < 66)
PieceWithin kept size e (Ok (Ready n)) = e ≡ true

pub record PieceConverted (l : Loading) (m t : List ℕ) (kept size : ℕ) (e : Bool) (x : Result ConvertOutcome ImageError) (k : Loading) (m_now u : List ℕ) : Type 0 where
  pub store_size : length m_now ≡ 8320
  pub within : LoadingWithin k m_now
  pub judged : PieceJudged (as_loading l m) t kept size e x (as_loading k m_now)
  pub buffer_after : BufferAfter x size t u
  pub outcome_within : PieceWithin kept size e x

-- what `convert` gives for the records so far and more bytes, by the outcome
unfoldable pub convert_by : Result ConvertOutcome ImageError → (after : Image.Loading) → (size : ℕ) → (buffer rest : List ℕ) → List ℕ
convert_by (Err error) k size u rest = refusal_line (image_number error)
convert_by (Ok (More n)) k size u rest = convert_after k (take n u) (waiting n size u ++ rest)
convert_by (Ok (Ready n)) k size u rest = take n u

-- the bytes that are kept gave what is loaded: with them an image is accepted that is accepted after them, so that they have its only ST, or none
unfoldable pub AcceptedWith : (kept : List ℕ) → Image.Loading → (waiting : List ℕ) → Type 0
AcceptedWith kept l bs =
    (rest : List ℕ) (v : Delivery) (m : Machine) (b : ℕ) → Image.image_after l (bs ++ rest) ≡ Image.loaded v m b →
    Image.stored_image (kept ++ (bs ++ rest)) ≡ Image.loaded v m b

-- that holds before the first byte, and whatever is read
abbrev pub NothingAccepted : Type 0
NothingAccepted = (bs : List ℕ) → AcceptedWith [] (Image.nothing_loaded Image.stored) bs

abbrev pub ReadingAccepts : Type 0
ReadingAccepts = (kept bs new : List ℕ) (l : Image.Loading) → AcceptedWith kept l bs → AcceptedWith kept l (bs ++ new)

-- so an image in pieces is converted as it is whole, and it holds again where more is to come
pub record Goes_on (l : Loading) (m t : List ℕ) (kept size : ℕ) (e : Bool) (x : Result ConvertOutcome ImageError) (k : Loading) (m_now u : List ℕ) : Type 0 where
  pub converts : (rest : List ℕ) → (e ≡ true → rest ≡ []) →
      convert_after (as_loading l m) (take kept t) (waiting kept size t ++ rest) ≡ convert_by x (as_loading k m_now) size u rest
  pub accepts : (n : ℕ) → x ≡ Ok (More n) → AcceptedWith (take n u) (as_loading k m_now) (waiting n size u)

abbrev pub PiecesConvert : Type 0
PiecesConvert =
    (l : Loading) (m t : List ℕ) (kept size : ℕ) (e : Bool) (x : Result ConvertOutcome ImageError) (k : Loading) (m_now u : List ℕ) → kept ≤ size →
    AcceptedWith (take kept t) (as_loading l m) (waiting kept size t) → PieceConverted l m t kept size e x k m_now u → Goes_on l m t kept size e x k m_now u

-- fewer bytes hold the records so far, and the bytes that wait follow them
pub record RoomMade (kept size : ℕ) (t : List ℕ) (n : ℕ) (u : List ℕ) : Type 0 where
  pub converts_same : (l : Image.Loading) (bs : List ℕ) → convert_after l (take n u) bs ≡ convert_after l (take kept t) bs
  pub accepts_same : (l : Image.Loading) (bs : List ℕ) → AcceptedWith (take kept t) l bs → AcceptedWith (take n u) l bs
  pub waiting_same : waiting n (n + (size - kept)) u ≡ waiting kept size t
  pub shorter : n ≤ kept
  pub size_same : length u ≡ length t
