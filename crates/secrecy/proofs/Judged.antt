-- Either memory judges the same words descriptor words, observable and writable. Assumes nothing.
use mathlib.Core.Path.{◌≡◌, refl, sym, ◌∙◌, ap}
use mathlib.Core.Bool.{Bool, true, false, ◌&&◌}
use mathlib.Core.List.{List}
use Prim.Native.Nat.{ℕ, ◌+◌, ◌<◌}
use native.Mathlib.Omega.{arith}
use lib.Dec.{ltb, leb}
use lib.ListN.{length, get_or, get_or-eq_default}
use borrow.Author.Tests.{ltb-true, ltb-false}
use Rattle.model.specs.Registers.{Registers, machine}
use Rattle.model.specs.Reach.{is_descriptor_word, SameDescriptors, observable_through, writable_through, observable, writable}
use Rattle.model.proofs.BranchLaws.{or_left}
use Rattle.secrecy.specs.Statement.{Agree, JudgedAlike}
use Rattle.model.proofs.ReachLaws.{some_below_same}
use Rattle.model.proofs.DescriptorLaws.{is_descriptor_word_of, same_observable_through, same_writable_through}

-- a descriptor word past the end of both memories is 0 in both
agree_same_descriptors : (n : ℕ) (r : Registers) (m k : List ℕ) → length m ≡ length k → Agree n (machine r m) m k → SameDescriptors (machine r m) (machine r k)
unfolding machine Agree
agree_same_descriptors n r m k same agree =
    record { same_dbr = refl; same_length = same; same_descriptor_words = λ s h. by_test s h (ltb (r.dbr.address + s) (length m)) refl }
  where
    by_test : (s : ℕ) → s < r.dbr.length → (t : Bool) → ltb (r.dbr.address + s) (length m) ≡ t →
        get_or m (r.dbr.address + s) 0 ≡ get_or k (r.dbr.address + s) 0
    by_test s h true e =
        agree _ (or_left _ (observable n (machine r m) (r.dbr.address + s)) (is_descriptor_word_of (machine r m) s h (ltb-true _ _ e)))
    by_test s h false e =
        let x : ℕ = r.dbr.address + s in
        let l = ltb-false x (length m) e in
        get_or-eq_default m 0 {n = x} l ∙ sym (get_or-eq_default k 0 {n = x} (omega arith))

pub judged_alike : JudgedAlike
unfolding is_descriptor_word observable writable machine
judged_alike n r m k same agree x =
    let table = agree_same_descriptors n r m k same agree in
    let b = r.dbr.length in (
      ap (λ l. ltb x l && (leb r.dbr.address x && ltb x (r.dbr.address + b))) same,
      some_below_same (observable_through n (machine r m) x) (observable_through n (machine r k) x) (same_observable_through table n x) b,
      some_below_same (writable_through n (machine r m) x) (writable_through n (machine r k) x) (same_writable_through table n x) b,
    )
