-- A stored image read in pieces: what each turn keeps, and each way out. Assumes nothing.
use mathlib.Core.Path.{◌≡◌, ◌∙◌, ap, sym, subst}
use mathlib.Core.Bool.{Bool}
use mathlib.Core.List.{List, ◌++◌}
use Prim.Native.Nat.{ℕ, ◌+◌, ◌-◌, ◌≤◌}
use native.Mathlib.Omega.{arith}
use lib.ListN.{length, take, drop, replicate, length-append, length-drop, length-replicate}
use lib.Seq.{length-take-le}
use Rattle.std.specs.Prelude.{Result, Ok, Err}
use Rattle.loading.specs.declared.Loading.{Loading}
use Rattle.fields.specs.declared.rules.Rules.TheVariants.{Stored}
use Rattle.loading.specs.View.{Starts}
use Rattle.image.proofs.LoadLaws.{may_load}
use Rattle.image.specs.declared.error.ImageError.{ImageError}
use Rattle.conversion.specs.declared.ConvertOutcome.{ConvertOutcome}
use Rattle.conversion.specs.declared.ConvertOutcome.TheVariants.{More, Ready}
use Rattle.conversion.specs.Piece.{BufferAfter, PieceWithin, PieceConverted}
use Rattle.conversion.proofs.PieceLaws.{renewed_length}
use Rattle.convert.specs.declared.Room.{Room}
use Rattle.convert.specs.Turn.{RoomLeft, TurnWithin}

-- A PIECE CONVERTED
module _ (l : Loading) (m t : List ℕ) (kept size : ℕ) (e : Bool) (x : Result ConvertOutcome ImageError) (k : Loading) (m_now u : List ℕ)
    (w : PieceConverted l m t kept size e x k m_now u) where
  pub more_kept : (n : ℕ) → x ≡ Ok (More n) → n ≤ size
  unfolding PieceWithin
  more_kept n q = (subst (PieceWithin kept size e) q w.outcome_within).2

  pub more_size : (n : ℕ) → x ≡ Ok (More n) → size + 5 ≤ length t → size + 5 ≤ length u
  unfolding BufferAfter
  more_size n q h = subst (λ b. size + 5 ≤ length b) (sym (subst (λ o. BufferAfter o size t u) q w.buffer_after)) h

  pub ready_fits : (n : ℕ) → x ≡ Ok (Ready n) → size + 5 ≤ length t → n ≤ length u
  unfolding BufferAfter
  ready_fits n q h = let a = subst (λ o. BufferAfter o size t u) q w.buffer_after in let z = renewed_length size t h n u a in let y = a.within in omega arith

  -- the next turn
  pub turn_again : (r : Room) (v : List ℕ) → RoomLeft r u v → TurnWithin k r m_now v
  turn_again r v a = record { within = w.within; store_size = w.store_size; kept_within = a.kept_within; size_within = a.size_within }

-- what is read into
module _ (n : ℕ) (t : List ℕ) (h : n + 5 ≤ length t) where
  pub limit_size : length t - 5 ≡ length (take (length t - 5) t)
  limit_size = sym (length-take-le (length t - 5) t (omega arith))

  pub limit_room : n ≤ length (take (length t - 5) t)
  limit_room = let y = limit_size in omega arith

  pub limit_kept : (part : List ℕ) (k : ℕ) → k ≤ length part → k + 5 ≤ length (part ++ drop (length t - 5) t)
  limit_kept part k g = let y = length-append part (drop (length t - 5) t) in let z = length-drop (length t - 5) t in omega arith

-- before the first piece
pub turn_starts : (l : Loading) (m u : List ℕ) → Starts Stored l → m ≡ replicate 8320 0 → 5 ≤ length u → TurnWithin l (record { kept = 0; size = 0 }) m u
turn_starts l m u s e h =
    record { within = may_load Stored l m s e; store_size = ap length e ∙ length-replicate {A = ℕ} 8320 0; kept_within = omega arith; size_within = h }

pub ruleset pieces = (more_kept, more_size, ready_fits, turn_again)

pub ruleset limits = (limit_size, limit_room, limit_kept)
