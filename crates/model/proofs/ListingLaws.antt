-- A listing is its lines one after another. Assumes nothing.
use mathlib.Core.Path.{◌≡◌, refl, sym, ◌∙◌, ap, ap₂}
use mathlib.Core.List.{List, [], ◌∷◌, ◌++◌, append_assoc}
use Prim.Native.Nat.{ℕ, suc, ◌+◌}
use native.Mathlib.Omega.{arith}
use lib.ListN.{length}
use Rattle.model.specs.Registers.{Delivery, Machine}
use Rattle.model.specs.Run.{Reply, spent, Ran, ran, run, after, Traced, traced, trace_from, trace, total_of, total}
use Rattle.model.specs.Step.{pointer_words}
use Rattle.model.specs.Answers.{numbers, reply_numbers}
use Rattle.model.specs.Ends.{Steps, no_step, one_more, Ends, by_refusal, by_fault, by_halt, by_budget}
use Rattle.model.specs.Listing.{step_line, step_lines, last_line, listing}
use Rattle.model.specs.Records.{ListingIsLines}
use Rattle.model.proofs.RunLaws.{trace_completes, trace_goes}
use Rattle.model.proofs.EndsLaws.{run_ends}
use Rattle.model.proofs.CountLaws.{steps_keep_passing}

pub step_lines_append : (c : ℕ) (ps qs : List Traced) → step_lines c (ps ++ qs) ≡ step_lines c ps ++ step_lines (c + length ps) qs
unfolding step_lines
step_lines_append c [] qs = ap (λ z. step_lines z qs) (omega arith)
step_lines_append c (p ∷ ps) qs =
    ap (λ t. step_line (suc c) p ++ t) (step_lines_append (suc c) ps qs)
    ∙ sym (append_assoc (step_line (suc c) p) (step_lines (suc c) ps) (step_lines (suc c + length ps) qs))
    ∙ ap (λ z. step_line (suc c) p ++ step_lines (suc c) ps ++ step_lines z qs) (omega arith)

pub total_append : (xs ys : List Traced) → total_of (xs ++ ys) ≡ total_of xs + total_of ys
unfolding total_of
total_append [] ys = omega arith
total_append (x ∷ xs) ys = ap (λ n. x.pointers + n) (total_append xs ys) ∙ omega arith

module _ (v : Delivery) where
  pub steps_trace : {j : ℕ} {m k : Machine} → Steps v j m k → (b : ℕ) → trace_from v (j + b) m ≡ trace_from v j m ++ trace_from v b k
  unfolding trace_from
  steps_trace {m} no_step b = let e : 0 + b ≡ b = omega arith in ap (λ x. trace_from v x m) e
  steps_trace {m} {k} (one_more {n = n} {l = l} e s) b =
      ap (λ x. trace_from v x m) (let z : suc n + b ≡ suc (n + b) = omega arith in z) ∙ trace_completes v (n + b) m l e ∙ ap (λ t. traced l (pointer_words m) ∷ t) (steps_trace s b)
      ∙ ap (λ t. t ++ trace_from v b k) (sym (trace_completes v n m l e))

  steps_trace_length : {j : ℕ} {m k : Machine} → Steps v j m k → length (trace_from v j m) ≡ j
  unfolding trace_from
  steps_trace_length no_step = refl
  steps_trace_length {m} (one_more {n = n} {l = l} e s) = ap length (trace_completes v n m l e) ∙ ap suc (steps_trace_length s)

pub listing_is_lines : ListingIsLines
unfolding listing after ran reply_numbers numbers total
listing_is_lines v j k m e = by_ends (run_ends v j m) e refl
  where
    kind_of : Reply → ℕ
    kind_of p = (reply_numbers p).kind

    last : ℕ → List ℕ
    last n = last_line (run v (j + k) m).reply n

    by_ends : {x : Ran} → Ends v j m x → x.reply ≡ spent j → x ≡ run v j m →
        step_lines 0 (trace v (j + k) m) ++ last (total_of (trace v (j + k) m))
        ≡ step_lines 0 (trace v j m) ++ step_lines j (trace v k (run v j m).machine) ++ last (total_of (trace v j m) + total_of (trace v k (run v j m).machine))
    by_ends (by_refusal q) f same = absurd (let z = ap kind_of f in omega arith)
    by_ends (by_fault q s h g) f same = absurd (let z = ap kind_of f in omega arith)
    by_ends (by_halt q s h g) f same = absurd (let z = ap kind_of f in omega arith)
    by_ends (by_budget {k = l} q s) f same =
        ap (λ t. step_lines 0 t ++ last (total_of t)) (trace_goes v (j + k) m q ∙ steps_trace v s k)
        ∙ ap₂ (λ t n. t ++ last n) (step_lines_append 0 (trace_from v j m) (trace_from v k l)) (total_append (trace_from v j m) (trace_from v k l))
        ∙ ap₂ (λ z t. step_lines 0 t ++ step_lines z (trace_from v k l) ++ last (total_of t + total_of (trace_from v k l))) (omega (arith, steps_trace_length v s)) (sym (trace_goes v j m q))
        ∙ ap (λ t. step_lines 0 (trace v j m) ++ step_lines j t ++ last (total_of (trace v j m) + total_of t)) (sym (trace_goes v k l (steps_keep_passing v s q)))
        ∙ ap (λ (x : Ran). step_lines 0 (trace v j m) ++ step_lines j (trace v k x.machine) ++ last (total_of (trace v j m) + total_of (trace v k x.machine))) same
