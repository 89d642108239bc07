-- A part of a run with delivery: its plain steps in the rest of the trace, and what follows from their answer. Assumes nothing.
use mathlib.Core.Path.{◌≡◌, refl, sym, ◌∙◌, ap, subst}
use mathlib.Core.Bool.{false}
use mathlib.Core.List.{List, ◌++◌, append-nil, append_assoc, map-append}
use Prim.Native.Nat.{ℕ, ◌+◌, ◌-◌, ◌*◌, ◌≤◌, ◌<◌}
use native.Mathlib.Omega.{arith}
use lib.ListN.{length, take, drop, length-drop, drop_of_length-le}
use lib.Seq.{length-take-le, take-append-add}
use borrow.Rule.Slice.PartMut.{put_mid, same_len_mid}
use Rattle.model.specs.Registers.{Delivery, Machine}
use Rattle.model.specs.Answers.{Numbers, reply_numbers}
use Rattle.model.specs.Questions.{start_questions}
use Rattle.model.specs.Program.{faults}
use Rattle.model.specs.Deliver.{step_with}
use Rattle.model.specs.Run as Run
use Rattle.model.specs.Run.{total_of}
use Rattle.model.proofs.ListingLaws.{total_append}
use Rattle.words.specs.View.{as_pointer, PointerWithin}
use Rattle.words.specs.declared.pointer.Pointer.{Pointer}
use Rattle.state.specs.declared.Core.{Core}
use Rattle.state.specs.Reply.{as_reply, ReplyWithin, completed}
use Rattle.state.specs.declared.reply.Reply.{Reply}
use Rattle.dispatch.specs.Plain.{plain_step}
use Rattle.run.specs.Run.{run_by, trace_by, last_by, step_in, noted_steps, OnTheWay, AtTheEnd}
use Rattle.run.proofs.RunLaws.{way_joins, way_ends, way_spent}
use Rattle.answers.specs.Answer.{reply_in, Replies, AnswerFits}
use Rattle.answers.specs.declared.Answered.{Answered}
use Rattle.answers.proofs.AnswerLaws.{reply_of_numbers, count_completed}
use Rattle.plain.specs.Plain.{RunsPlainly}
use Rattle.delivered.specs.Parts.{StepsAs, LedTo, PartAs}
use Rattle.std.specs.Prelude.{Option, None, Some}
use Rattle.delivered.specs.declared.PartEnd.{PartEnd}
use Rattle.delivered.specs.declared.RunEnd.{RunEnd}
use Rattle.delivered.proofs.FollowLaws.{passes_with, Ahead, Whole, followed, follow}

-- PLAIN STEPS noted in the rest of a trace, from start on: the count, or the trace's end where that comes first
module _ (budget count : ℕ) (m : Machine) (t : List ℕ) (start : ℕ) (x : Answered) (k : Machine) (s : List ℕ) where
  module _ (room : count ≤ length t) (here : start ≡ count) where
    front_kept : take (count + x.count) (put_mid start (length t - start) t s) ≡ take count t ++ take x.count s
    front_kept =
        rw here
        (ap (λ n. take (n + x.count) (take count t ++ (s ++ drop (length t - count) (drop count t)))) (sym (length-take-le count t room))
        ∙ take-append-add (take count t) _ x.count
        ∙ ap (λ l. take count t ++ take x.count (s ++ l)) (drop_of_length-le (drop count t) {i = length t - count} (let z = length-drop count t in omega arith))
        ∙ ap (λ l. take count t ++ take x.count l) (append-nil s))

  pub steps_noted : start ≤ length t → (count ≤ length t → start ≡ count) → count ≤ budget → AnswerFits x → length s ≡ length (take (length t - start) (drop start t)) →
      RunsPlainly false (budget - count) m (take (length t - start) (drop start t)) x k s → StepsAs budget count m t x k (put_mid start (length t - start) t s)
  steps_noted g f h fits l r =
      record {
        numbers_same = r.numbers_same;
        machine_same = r.machine_same;
        passes = r.passes;
        fits = fits;
        trace_size = same_len_mid start (length t - start) t s l;
        traced = λ room.
            let here = f (omega arith) in
            let size : length (take (length t - start) (drop start t)) ≡ length t - start = length-take-le (length t - start) (drop start t) (let z = length-drop start t in omega arith) in
            ap noted_steps (front_kept (omega arith) here) ∙ map-append step_in (take count t) (take x.count s) ∙ ap (λ l. noted_steps (take count t) ++ l) (r.traced (omega arith));
        pointers_same = r.pointers_same;
      }

-- A PART: what its plain steps answered
module _ (v : Delivery) (b c : ℕ) (m : Machine) (t : List ℕ) (e : start_questions v m ≡ 0) (h : c ≤ b) (x : Answered) (k : Machine) (u : List ℕ) (s : StepsAs b c m t x k u)
    (r : Reply) (w : Replies x r) where
  reply_same : as_reply r ≡ (run_by plain_step (b - c) 0 m).reply
  reply_same = w.same ∙ ap reply_in s.numbers_same ∙ reply_of_numbers (run_by plain_step (b - c) 0 m).reply

  count_same : (z : Reply) → r ≡ z → x.count ≡ completed z
  count_same z f =
      ap (λ (q : Numbers). q.count) s.numbers_same ∙ ap (λ q. (reply_numbers q).count) (sym reply_same) ∙ count_completed r ∙ ap completed f

  answered : (z : Reply) → r ≡ z → followed v c (b - c) 0 m (as_reply z) k
  answered z f =
      subst (λ q. followed v c (b - c) 0 m (as_reply q) k) f
      (subst (λ q. followed v c (b - c) 0 m q k) (sym reply_same)
      (subst (λ j. followed v c (b - c) 0 m (run_by plain_step (b - c) 0 m).reply j) (sym s.machine_same) (follow v c (b - c) 0 m)))

  start_count : c ≡ c + 0
  start_count = omega arith

  passes_now : start_questions v k ≡ 0
  passes_now = passes_with v m e k s.passes

  module _ (n : ℕ) (n_same : x.count ≡ n) where
    few_words : 64 * 0 + total_of (trace_by plain_step (b - c) m) ≤ 64 * n → 64 * c + x.pointers ≤ 64 * (c + n)
    few_words f = omega (arith, f, s.pointers_same)

    module _ (a : Ahead v c (b - c) 0 m n k) where
      left : 0 + (b - c) - n ≡ b - (c + n)
      left = omega arith

      way : OnTheWay (step_with v) v b c m t (c + n) x.pointers k u
      way =
          record {
            within_budget = omega (arith, a.within_budget);
            passes = passes_now;
            size_same = a.size_same;
            trace_size = s.trace_size;
            run_same =
                ap (λ z. run_by (step_with v) (b - c) z m) start_count ∙ a.run_same
                ∙ ap (λ z. run_by (step_with v) z (c + n) k) left;
            trace_same =
                λ room.
                ap (λ z. noted_steps (take c t) ++ z) a.trace_same
                ∙ sym (append_assoc (noted_steps (take c t)) (trace_by plain_step (b - c) m) (trace_by (step_with v) (0 + (b - c) - n) k))
                ∙ ap (λ z. z ++ trace_by (step_with v) (0 + (b - c) - n) k) (sym (s.traced room) ∙ ap (λ z. noted_steps (take (c + z) u)) n_same)
                ∙ ap (λ z. noted_steps (take (c + n) u) ++ trace_by (step_with v) z k) left;
            total_same =
                ap total_of a.trace_same ∙ total_append (trace_by plain_step (b - c) m) (trace_by (step_with v) (0 + (b - c) - n) k)
                ∙ ap (λ z. z + total_of (trace_by (step_with v) (0 + (b - c) - n) k)) (sym s.pointers_same)
                ∙ ap (λ z. x.pointers + total_of (trace_by (step_with v) z k)) left;
            last_same = a.last_same ∙ ap (λ z. last_by (step_with v) z k) left;
          }

    whole : Whole v c (b - c) 0 m n k → AtTheEnd (step_with v) v b c m t (Run.Reply.halted (c + n)) (c + n) x.pointers 0 k u
    whole a =
        record {
          passes = passes_now;
          trace_size = s.trace_size;
          run_same = ap (λ z. run_by (step_with v) (b - c) z m) start_count ∙ a.run_same;
          trace_same =
              λ room.
              ap (λ z. noted_steps (take c t) ++ z) a.trace_same ∙ sym (s.traced room) ∙ ap (λ z. noted_steps (take (c + z) u)) n_same;
          total_same = ap total_of a.trace_same ∙ sym s.pointers_same;
          last_same = a.last_same;
        }

  pub never_refused : (n : ℕ) → r ≡ Reply.Refused n → ⊥
  never_refused n f = answered (Reply.Refused n) f

  module _ (n : ℕ) where
    -- the budget is spent
    module _ (f : r ≡ Reply.Spent n) where
      pub spent_fits : c + n ≤ b
      spent_fits = omega (arith, (answered (Reply.Spent n) f).0)

      pub part_spent : (core : Core) → PartAs v b c 0 m t (record { core = core; count = c + n; read = x.pointers; end = Some (record { reply = Reply.Spent (c + n); last = 0 }) }) k u
      part_spent core =
          let a = answered (Reply.Spent n) f in
          let i = count_same (Reply.Spent n) f in
          record {
            words = x.pointers;
            read_same = omega arith;
            led = (way_spent (step_with v) v b c m t (c + n) x.pointers k u (way n i a.1) (omega (arith, a.0)), refl, tt);
            count_within = spent_fits;
            few = few_words n i a.1.few;
          }

    module _ (f : r ≡ Reply.Halted n) where
      pub halted_fits : c + n ≤ b
      halted_fits = omega (arith, (answered (Reply.Halted n) f).within_budget)

      pub part_halted : (core : Core) → PartAs v b c 0 m t (record { core = core; count = c + n; read = x.pointers; end = Some (record { reply = Reply.Halted (c + n); last = 0 }) }) k u
      part_halted core =
          let a = answered (Reply.Halted n) f in
          let i = count_same (Reply.Halted n) f in
          record {
            words = x.pointers;
            read_same = omega arith;
            led = (whole n i a, refl, tt);
            count_within = halted_fits;
            few = few_words n i a.few;
          }

  -- they stopped, and what the step that stopped gave
  module _ (i n : ℕ) (p : Pointer) (f : r ≡ Reply.Fault i n p) where
    pub stop_below : c + n < b
    stop_below = omega (arith, (answered (Reply.Fault i n p) f).0)

    pub stop_here : (start_questions v k ≡ 0) × (plain_step k ≡ faults i (as_pointer p)) × PointerWithin p × (c + n < b) × (x.pointers ≤ 64 * (c + n))
    stop_here =
        let a = answered (Reply.Fault i n p) f in
        (passes_now, a.1, subst ReplyWithin f w.within, stop_below, omega (arith, few_words n (count_same (Reply.Fault i n p) f) a.2.few))

    pub part_stopped : (y : PartEnd) (j : Machine) (l : List ℕ) → PartAs v b (c + n) x.pointers k u y j l → PartAs v b c 0 m t y j l
    part_stopped y j l q =
        let a = answered (Reply.Fault i n p) f in
        let z = count_same (Reply.Fault i n p) f in
        record {
          words = x.pointers + q.words;
          read_same = omega (arith, q.read_same);
          led = led_on y.end q.led;
          count_within = q.count_within;
          few = omega (arith, q.few, few_words n z a.2.few);
        }
      where
        before : OnTheWay (step_with v) v b c m t (c + n) x.pointers k u
        before = way n (count_same (Reply.Fault i n p) f) (answered (Reply.Fault i n p) f).2

        led_on : (e : Option RunEnd) → LedTo v b (c + n) k u y.count q.words j l e → LedTo v b c m t y.count (x.pointers + q.words) j l e
        led_on None o = (way_joins (step_with v) v b c m t (c + n) x.pointers k u before y.count q.words j l o.0, omega (arith, o.1))
        led_on (Some e) o = (way_ends (step_with v) v b c m t (c + n) x.pointers k u before (as_reply e.reply) y.count q.words e.last j l o.0, o.1, o.2)
