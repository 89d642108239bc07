-- A single step as a plain one, and again where that stops. Assumes nothing.
use mathlib.Core.Path.{◌≡◌, sym, ◌∙◌, subst}
use mathlib.Core.Bool.{Bool, true, ◌&&◌}
use mathlib.Core.List.{List, []}
use Prim.Native.Nat.{ℕ}
use lib.Dec.{eqb}
use borrow.Author.Tests.{eqb-true}
use Rattle.model.specs.Registers.{Delivery}
use Rattle.model.specs.Questions.{delivery_in_range}
use Rattle.model.proofs.BranchLaws.{and_left, and_right}
use Rattle.state.specs.declared.Core.{Core}
use Rattle.answers.specs.declared.Answered.{Answered}
use Rattle.machine.specs.Answered.{AnsweredAs}
use Rattle.plain.specs.Plain.{PlainAs}
use Rattle.machine.proofs.SingleLaws.{plain_answers, stops_at_once, answers_from}
use Rattle.entry.specs.Call.{CoreSays}
use Rattle.entry.proofs.CallLaws.{core_says}

module _ (v : Delivery) (single : Bool) (b : ℕ) (d : Bool) (e : d ≡ delivery_in_range v) (h : (single && eqb b 1) && d ≡ true) (c : Core) (prs memory : List ℕ) (x : Answered) (prs_then memory_then : List ℕ)
    (w : PlainAs true 1 c prs memory [] x prs_then memory_then []) where
  as_asked : (y : Answered) (prs_now memory_now : List ℕ) → CoreSays v true 1 c prs memory y prs_now memory_now → CoreSays v single b c prs memory y prs_now memory_now
  as_asked y prs_now memory_now s =
      let f = and_left (single && eqb b 1) d h in
      subst (λ z. CoreSays v z b c prs memory y prs_now memory_now) (sym (and_left single (eqb b 1) f))
      (subst (λ z. CoreSays v true z c prs memory y prs_now memory_now) (sym (eqb-true b 1 (and_right single (eqb b 1) f))) s)

  pub step_is_plain : (x.kind ≡ 3 → ⊥) → CoreSays v single b c prs memory x prs_then memory_then
  step_is_plain g =
      as_asked x prs_then memory_then
      (core_says v true 1 c prs memory [] x prs_then memory_then []
      (plain_answers v (sym e ∙ and_right (single && eqb b 1) d h) true 1 c prs memory [] x prs_then memory_then [] w g))

  pub step_again : x.kind ≡ 3 → (trace : List ℕ) (y : Answered) (prs_now memory_now trace_now : List ℕ) → AnsweredAs v true 1 x.core prs_then memory_then trace y prs_now memory_now trace_now →
      CoreSays v single b c prs memory y prs_now memory_now
  step_again g trace y prs_now memory_now trace_now s =
      as_asked y prs_now memory_now
      (core_says v true 1 c prs memory trace y prs_now memory_now trace_now
      (answers_from v true 1 c x.core prs memory prs_then memory_then trace y prs_now memory_now trace_now
      (stops_at_once true c prs memory [] x prs_then memory_then [] w g) w.core_fits s))
