-- An image loaded in pieces. Assumes nothing.
use mathlib.Core.Path.{◌≡◌, sym, ◌∙◌, ap, ap₂, subst}
use mathlib.Core.Bool.{Bool}
use mathlib.Core.List.{List, ◌++◌}
use Prim.Native.Nat.{ℕ, ◌+◌, ◌-◌, ◌≤◌, ◌<◌}
use native.Mathlib.Omega.{arith}
use lib.ListN.{length, take, drop}
use lib.Seq.{length-take-le}
use Rattle.model.specs.Image as Image
use Rattle.buffers.specs.Move.{bytes_moved}
use Rattle.buffers.proofs.MoveLaws.{take_moved, part_of_front}
use Rattle.loading.specs.declared.Loading.{Loading}
use Rattle.image.specs.declared.load.LoadOutcome.{LoadOutcome}
use Rattle.image.specs.declared.load.LoadOutcome.TheVariants.{More, Ready}
use Rattle.loading.specs.declared.Start.{Start}
use Rattle.loading.specs.declared.error.LoadError.{LoadError}
use Rattle.std.specs.Prelude.{Result, Ok, Err}
use Rattle.loading.specs.View.{as_loading, LoadingWithin}
use Rattle.loading.specs.Record.{Goes, outcome_image}
use Rattle.image.specs.Load.{LoadedAs}
use Rattle.image.proofs.LoadLaws.{words_within}
use Rattle.image.specs.Piece.{piece_image, PieceGoes, PieceWithin, PieceLoaded}

pub part_size : (n : ℕ) (t : List ℕ) → n ≤ length t → n ≡ length (take n t)
part_size n t h = sym (length-take-le n t h)

-- A PIECE, for each outcome
module _ (l : Loading) (m t : List ℕ) (n : ℕ) (e : Bool) (x : Result LoadOutcome LoadError) (k : Loading) (m_now : List ℕ) (w : LoadedAs l m (take n t) e x k m_now) (h : n ≤ length t) where
  size : length (take n t) ≡ n
  size = length-take-le n t h

  pub used_within : (used : ℕ) → x ≡ Ok (More used) → used ≤ n
  used_within used o = let q = (rw o at w).outcome_within in omega (arith, size)

  pub kept_in_buffer : (used : ℕ) → x ≡ Ok (More used) → used + (n - used) ≤ length t
  kept_in_buffer used o = let y = used_within used o in omega arith

  pub piece_refused : (error : LoadError) (u : List ℕ) → x ≡ Err error → PieceLoaded l m (take n t) e (Err error) k m_now u
  unfolding Goes PieceGoes outcome_image piece_image
  piece_refused error u o = let v = rw o at w in record { size_same = v.size_same; within = v.within; goes = v.goes; outcome_within = tt }

  pub piece_ready : (s : Start) (u : List ℕ) → x ≡ Ok (Ready s) → PieceLoaded l m (take n t) e (Ok (Ready s)) k m_now u
  unfolding Goes PieceGoes outcome_image piece_image
  piece_ready s u o = let v = rw o at w in record { size_same = v.size_same; within = v.within; goes = v.goes; outcome_within = v.outcome_within }

  pub piece_kept : (used : ℕ) (u : List ℕ) → x ≡ Ok (More used) → u ≡ bytes_moved used 0 (n - used) t →
      PieceLoaded l m (take n t) e (Ok (More (n - used))) k m_now u
  unfolding Goes PieceGoes outcome_image piece_image
  piece_kept used u o moved =
      record {
        size_same = w.size_same;
        within = w.within;
        goes = λ rest z. v.goes rest z ∙ ap (λ bs. Image.image_after (as_loading k m_now) (bs ++ rest)) (sym kept);
        outcome_within = (v.outcome_within.0, let q = v.outcome_within.2 in omega (arith, size));
      }
    where
      v : LoadedAs l m (take n t) e (Ok (More used)) k m_now
      v = rw o at w

      kept : take (n - used) u ≡ drop used (take n t)
      kept =
          let y = used_within used o in
          ap₂ take (let q : n - used ≡ 0 + (n - used) = omega arith in q) moved ∙ take_moved t used 0 (n - used) (omega arith) (omega arith) ∙ part_of_front used (n - used) t (omega arith)
          ∙ ap (λ l. drop used (take l t)) (let q : used + (n - used) ≡ n = omega arith in q)

pub ruleset pieces = (part_size, used_within, kept_in_buffer, piece_refused, piece_ready, piece_kept)

-- WHAT A READER OF PIECES NEEDS of one
module _ (l : Loading) (m piece : List ℕ) (e : Bool) (x : Result LoadOutcome LoadError) (k : Loading) (m_now u : List ℕ) (w : PieceLoaded l m piece e x k m_now u) where
  pub piece_within : LoadingWithin k m_now
  piece_within = w.within

  pub kept_few : (n : ℕ) → x ≡ Ok (More n) → n < 66
  kept_few n o = (subst (PieceWithin e k) o w.outcome_within).1

  pub piece_words : (s : Start) → x ≡ Ok (Ready s) → length m_now ≡ 8320 → s.words ≤ length m_now
  piece_words s o full = words_within k m_now s (subst (PieceWithin e k) o w.outcome_within).1 w.within full

pub ruleset read_pieces = (piece_within, kept_few, piece_words)
