-- What an answer was whose error has become another. Assumes nothing.
use Rattle.std.proofs.Common.{◌≡◌, Result, Ok, Err, refl}
use Rattle.std.specs.Result.{MatchResult, IsErrAnd}

module _ {T E D : Type 0} (P : E → D → Type 0) where
  pub was_ok : (r : Result T E) (q : Result T D) → MatchResult r (λ x. q ≡ Ok x) (λ e. IsErrAnd q (P e)) → (x : T) → q ≡ Ok x → r ≡ Ok x
  was_ok (Ok y) q h x e = cc
  was_ok (Err y) q h x e = absurd (rw e at h)

  pub was_err : (r : Result T E) (q : Result T D) → MatchResult r (λ x. q ≡ Ok x) (λ e. IsErrAnd q (P e)) → (d : D) → q ≡ Err d → (e : E) × (r ≡ Err e) × P e d
  was_err (Ok y) q h d e = cc
  was_err (Err y) q h d e = (y, refl, rw e at h)
