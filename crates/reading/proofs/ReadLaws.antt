-- An image read in pieces: what may be lent, and what an image that is whole leaves. Assumes nothing.
use Rattle.std.proofs.Common.{◌≡◌, ℕ, ◌≤◌, Bool, ◌⊎◌, List, length, replicate, sym, ap, ◌∙◌, subst, inl, inr, Ok}
use lib.ListN.{length-replicate}
use Rattle.loading.specs.declared.Loading.{Loading}
use Rattle.loading.specs.declared.Start.{Start}
use Rattle.loading.specs.View.{LoadingWithin, Starts, StartsSizing}
use Rattle.fields.specs.declared.rules.Rules.TheVariants.{Today}
use Rattle.image.proofs.LoadLaws.{may_load, may_size}
use Rattle.reading.specs.Read.{ZerosLent}

-- either store may be lent before the first record
pub may_begin : (l : Loading) (m : List ℕ) → Starts Today l → StartsSizing Today l → ZerosLent m → LoadingWithin l m
unfolding ZerosLent
may_begin l m s t z = by_size z
  where
    by_size : (m ≡ replicate 8320 0) ⊎ (m ≡ replicate 128 0) → LoadingWithin l m
    by_size (inl e) = may_load Today l m s e
    by_size (inr e) = may_size l m t e

pub full_lent : (m : List ℕ) → m ≡ replicate 8320 0 → ZerosLent m
unfolding ZerosLent
full_lent m e = inl e

pub full_still : (m m_now : List ℕ) → m ≡ replicate 8320 0 → length m_now ≡ length m → length m_now ≡ 8320
full_still m m_now e h = h ∙ ap length e ∙ length-replicate {A = ℕ} 8320 0

pub ruleset images = (full_lent, full_still)
