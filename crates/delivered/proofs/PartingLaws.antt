-- A run with delivery, part after part. Assumes nothing.
use mathlib.Core.Path.{◌≡◌, subst}
use mathlib.Core.List.{List}
use Prim.Native.Nat.{ℕ, ◌+◌, ◌-◌, ◌*◌, ◌^◌, ◌≤◌, ◌<◌}
use native.Mathlib.Omega.{arith}
use Rattle.std.specs.Prelude.{None, Some}
use Rattle.model.specs.Registers.{Delivery, Machine}
use Rattle.model.specs.Questions.{start_questions}
use Rattle.model.specs.Deliver.{step_with}
use Rattle.state.specs.declared.Core.{Core}
use Rattle.state.specs.Reply.{as_reply}
use Rattle.run.specs.Run.{run_by, RanAs, Traced, Counted, OnTheWay, AtTheEnd}
use Rattle.run.specs.declared.Ran.{Ran}
use Rattle.run.proofs.RunLaws.{way_starts, way_joins, way_ends, answers}
use Rattle.delivered.specs.Parts.{LedTo, PartAs}
use Rattle.delivered.specs.declared.PartEnd.{PartEnd}
use Rattle.delivered.specs.declared.RunEnd.{RunEnd}

-- PART AFTER PART, from the run's start: so many steps are complete, which read so many pointer words
pub record Parting (v : Delivery) (b : ℕ) (m : Machine) (t : List ℕ) (count total : ℕ) (k : Machine) (u : List ℕ) : Type 0 where
  pub way : OnTheWay (step_with v) v b 0 m t count total k u
  pub count_within : count ≤ b
  pub few : total ≤ 64 * count

pub parting_starts : (v : Delivery) (b : ℕ) (m : Machine) (t : List ℕ) → start_questions v m ≡ 0 → Parting v b m t 0 0 m t
parting_starts v b m t e = record { way = way_starts (step_with v) v b 0 m t (omega arith) e; count_within = omega arith; few = omega arith }

-- what the run ensures
abbrev Answers : Delivery → (budget : ℕ) → Machine → List ℕ → Ran → Machine → List ℕ → Type 0
Answers v b m t y k u = RanAs v (run_by (step_with v) b 0 m) y k × Traced (step_with v) b m y t u × Counted (step_with v) b m y

module _ (v : Delivery) (b : ℕ) (m : Machine) (t : List ℕ) (count total : ℕ) (k : Machine) (u : List ℕ) (p : Parting v b m t count total k u) where
  pub part_needs : (start_questions v k ≡ 0) × (count ≤ b)
  part_needs = (p.way.passes, p.count_within)

  module _ (y : PartEnd) (j : Machine) (l : List ℕ) (q : PartAs v b count 0 k u y j l) where
    more_words : total + y.read ≤ 64 * y.count
    more_words = omega (arith, p.few, q.few, q.read_same)

    pub words_fit : b < 2 ^ 32 → total + y.read < 2 ^ 64
    words_fit h = omega (arith, more_words, q.count_within)

    words_same : total + q.words ≡ total + y.read
    words_same = omega (arith, q.read_same)

    -- it goes on
    module _ (f : y.end ≡ None) where
      led : OnTheWay (step_with v) v b count k u y.count q.words j l × (count < y.count)
      led = subst (LedTo v b count k u y.count q.words j l) f q.led

      pub steps_left_fewer : b - y.count < b - count
      steps_left_fewer = omega (arith, led.1, q.count_within)

      pub parting_again : Parting v b m t y.count (total + y.read) j l
      parting_again =
          record {
            way = subst (λ n. OnTheWay (step_with v) v b 0 m t y.count n j l) words_same (way_joins (step_with v) v b 0 m t count total k u p.way y.count q.words j l led.0);
            count_within = q.count_within;
            few = more_words;
          }

    -- the run ends with it
    pub parting_ends : (e : RunEnd) → y.end ≡ Some e → (core : Core) → Answers v b m t (record { reply = e.reply; core = core; total = total + y.read; last = e.last }) j l
    parting_ends e f core =
        let s = subst (LedTo v b count k u y.count q.words j l) f q.led in
        let z = subst (λ n. AtTheEnd (step_with v) v b 0 m t (as_reply e.reply) y.count n e.last j l) words_same
        (way_ends (step_with v) v b 0 m t count total k u p.way (as_reply e.reply) y.count q.words e.last j l s.0) in
        answers (step_with v) v b m t (record { reply = e.reply; core = core; total = total + y.read; last = e.last }) j l
        (subst (λ n. AtTheEnd (step_with v) v b 0 m t (as_reply e.reply) n (total + y.read) e.last j l) s.1 z) s.2
