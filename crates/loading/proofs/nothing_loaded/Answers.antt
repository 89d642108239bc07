-- `nothing_loaded` meets its contract. Assumes nothing.
use mathlib.Core.Path.{◌≡◌, refl, sym, ◌∙◌, ap}
use mathlib.Core.Bool.{cond}
use mathlib.Core.Logic.{inl, inr}
use mathlib.Core.Option.{none}
use mathlib.Core.List.{List}
use Prim.Native.Nat.{ℕ}
use lib.Dec.{leb}
use lib.ListN.{length, replicate, length-replicate}
use Rattle.model.specs.Image as Image
use Rattle.model.specs.Registers.{no_delivery}
use Rattle.addresses.proofs.SetLaws.{none_in_zeros}
use Rattle.fields.specs.declared.rules.Rules.{Rules}
use Rattle.fields.specs.declared.rules.Rules.TheVariants.{Today, Stored}
use Rattle.loading.specs.View.{rules_of, keeps_words, set_in, rules_in, as_loading, StoreSized, Starts, StartsSizing}
use Rattle.loading.proofs.nothing_loaded.Goals as goal

zeros-still : (n : ℕ) (m : List ℕ) → m ≡ replicate n 0 → m ≡ replicate (length m) 0
zeros-still n m z = z ∙ ap (λ k. replicate k 0) (sym (ap length z ∙ length-replicate {A = ℕ} n 0))

full-rules : (v : Rules) → rules_in v (replicate 8320 0) ≡ rules_of v
unfolding rules_in rules_of keeps_words
full-rules Stored = refl
full-rules Today = ap (λ n. cond (leb 8320 n) Image.today Image.sizing) (length-replicate {A = ℕ} 8320 0)

set-rules : (v : Rules) → v ≡ Today → rules_in v (replicate 128 0) ≡ Image.sizing
unfolding rules_in keeps_words
set-rules v e = rw e (ap (λ n. cond (leb 8320 n) Image.today Image.sizing) (length-replicate {A = ℕ} 128 0))

pub returns : goal.returns
unfolding Starts StartsSizing as_loading StoreSized set_in
returns c =
    (λ m z. (record { sized = inl (ap length z ∙ length-replicate {A = ℕ} 8320 0); memory_within = zeros-still 8320 m z }, rw (z, full-rules c.args.rules) (ap (λ w. record { rules = rules_of c.args.rules; memory = none; written = w; registers = none; delivery = no_delivery }) (none_in_zeros 128))), λ e m z. (record { sized = inr (ap length z ∙ length-replicate {A = ℕ} 128 0, e); memory_within = zeros-still 128 m z }, rw (z, set-rules c.args.rules e) (ap (λ w. record { rules = Image.sizing; memory = none; written = w; registers = none; delivery = no_delivery }) (none_in_zeros 128))))
