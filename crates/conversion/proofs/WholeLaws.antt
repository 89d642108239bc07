-- A whole stored image: one law for each outcome. Assumes nothing.
use mathlib.Core.Path.{◌≡◌, refl, sym, ◌∙◌, ap, ap₂, subst}
use mathlib.Core.Bool.{true, true≢false}
use mathlib.Core.List.{List, [], ◌++◌, append-nil}
use Prim.Native.Nat.{ℕ, ◌-◌, ◌*◌, ◌^◌, ◌≤◌, ◌<◌}
use native.Mathlib.Omega.{arith}
use lib.ListN.{length, take, drop, replicate}
use Rattle.model.specs.Image as Image
use Rattle.model.specs.Convert.{kept_of, compacted, convert_call_on, convert_call}
use Rattle.formats.proofs.ImageLaws.{image_needs_rn}
use Rattle.compaction.specs.Renewed.{with_zeros}
use Rattle.compaction.proofs.StartLaws.{renewed_compacted}
use Rattle.loading.specs.declared.Loading.{Loading}
use Rattle.loading.specs.View.{rules_of, as_loading, Starts}
use Rattle.calls.specs.Call.{CalledAs}
use Rattle.calls.proofs.CallLaws.{refuses, wrote}
use Rattle.image.proofs.LoadLaws.{may_load}
use Rattle.conversion.specs.declared.ConvertOutcome.{ConvertOutcome}
use Rattle.conversion.specs.declared.ConvertOutcome.TheVariants.{More, Ready}
use Rattle.image.specs.Numbers.{image_number}
use Rattle.image.specs.declared.error.ImageError.{ImageError}
use Rattle.loading.specs.declared.error.LoadError.{LoadError}
use Rattle.fields.specs.declared.rules.Rules.TheVariants.{Stored}
use Rattle.std.specs.Prelude.{Result, Ok, Err}
use Rattle.conversion.specs.Piece.{waiting, JudgedAs, PieceJudged, BufferAfter, PieceWithin, PieceConverted}

-- the bytes of the image, with five more after them
abbrev image_bytes : List ℕ → List ℕ
image_bytes t = take (length t - 5) t

-- too few for the five are no bytes of an image
pub convert_nothing : (t : List ℕ) → length t < 5 → CalledAs image_number (convert_call t) (Err (ImageError.Load LoadError.OutOfPlace)) t
unfolding convert_call convert_call_on Image.stored_image
convert_nothing t h =
    let none : image_bytes t ≡ [] = ap (λ n. take n t) (let e : length t - 5 ≡ 0 = omega arith in e) in
    refuses image_number (convert_call t) (ImageError.Load LoadError.OutOfPlace) t
    (ap (λ i. convert_call_on i (image_bytes t) t) (ap Image.stored_image none ∙ image_needs_rn (Image.nothing_loaded Image.stored)))

module _ (l : Loading) (v t : List ℕ) (x : Result ConvertOutcome ImageError) (j : Loading) (m_now u : List ℕ) (s : Starts Stored l) (z : v ≡ replicate 8320 0)
    (w : PieceConverted l v t 0 (length t - 5) true x j m_now u) where
  abbrev size : ℕ
  size = length t - 5

  starts : as_loading l v ≡ Image.nothing_loaded Image.stored
  unfolding Starts rules_of
  starts = (s v z).1

  all_waits : waiting 0 size t ++ [] ≡ image_bytes t
  all_waits = append-nil _ ∙ ap (λ n. take n t) (let e : size - 0 ≡ size = omega arith in e)

  whole : (o : Result ConvertOutcome ImageError) → x ≡ o → JudgedAs o (Image.stored_image (image_bytes t)) (as_loading j m_now) size t []
  unfolding PieceJudged Image.stored_image
  whole o q =
      subst (λ i. JudgedAs o i (as_loading j m_now) size t []) (ap₂ Image.image_after starts all_waits)
      (subst (λ a. JudgedAs a (Image.image_after (as_loading l v) (waiting 0 size t ++ [])) (as_loading j m_now) size t []) q (w.judged [] (λ _. refl)))

  buffer : (o : Result ConvertOutcome ImageError) → x ≡ o → BufferAfter o size t u
  buffer o q = subst (λ a. BufferAfter a size t u) q w.buffer_after

  bounds : (o : Result ConvertOutcome ImageError) → x ≡ o → PieceWithin 0 size true o
  bounds o q = subst (PieceWithin 0 size true) q w.outcome_within

  pub convert_refused : (error : ImageError) → x ≡ Err error → CalledAs image_number (convert_call t) (Err error) u
  unfolding convert_call convert_call_on JudgedAs BufferAfter
  convert_refused error q =
      subst (CalledAs image_number (convert_call t) (Err error)) (sym (buffer (Err error) q))
      (refuses image_number (convert_call t) error t (ap (λ i. convert_call_on i (image_bytes t) t) (whole (Err error) q)))

  -- a whole image leaves no bytes over
  pub convert_no_more : (n : ℕ) → x ≡ Ok (More n) → (y : Result ℕ ImageError) → CalledAs image_number (convert_call t) y u
  unfolding PieceWithin
  convert_no_more n q y = absurd (true≢false (bounds (Ok (More n)) q).0)

  pub convert_ready : length t * 1 < 2 ^ 63 → 5 ≤ length t → (n : ℕ) → x ≡ Ok (Ready n) → CalledAs image_number (convert_call t) (Ok n) u
  unfolding convert_call convert_call_on JudgedAs BufferAfter
  convert_ready f five n q =
      let c = buffer (Ok (Ready n)) q in
      let j = whole (Ok (Ready n)) q in
      let new : with_zeros (kept_of (image_bytes t)) ≡ compacted (image_bytes t) = renewed_compacted (image_bytes t) j.0 j.1.0 j.1.1.0 j.1.1.1 in
      let sized : n ≡ length (compacted (image_bytes t)) = c.size ∙ ap length new in
      wrote image_number (convert_call t) n (compacted (image_bytes t)) t u (ap (λ i. convert_call_on i (image_bytes t) t) j.1.1.1) sized
      (let h = c.within in omega arith) (c.bytes ∙ ap₂ (λ bs k. bs ++ drop k t) new sized)

pub ruleset wholes = (may_load, convert_nothing)
