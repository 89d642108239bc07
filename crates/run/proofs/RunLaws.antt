-- A run: one step on the way, and one law for each way out of the loops. Assumes nothing.
use mathlib.Core.Path.{◌≡◌, refl, sym, ◌∙◌, ap, subst}
use mathlib.Core.List.{List, [], ◌∷◌, ◌++◌, append-nil, append_assoc}
use mathlib.Core.Logic.{◌⊎◌, inl, inr}
use Prim.Native.Nat.{ℕ, suc, ◌+◌, ◌-◌, ◌*◌, ◌^◌, ◌≤◌, ◌<◌}
use native.Mathlib.Nat.{zero-add, add-zero, add_assoc}
use native.Mathlib.Numerals.{add-one}
use native.Mathlib.Omega.{arith}
use lib.ListN.{length, take}
use Rattle.model.specs.Registers.{Delivery, no_delivery, Machine}
use Rattle.model.specs.Questions.{start_questions}
use Rattle.model.specs.Words as Words
use Rattle.model.specs.Step.{pointer_words}
use Rattle.model.specs.Run as Run
use Rattle.model.specs.Run.{ran, total_of}
use Rattle.model.specs.Program.{Outcome, faults, completes, halts}
use Rattle.model.proofs.DeliverLaws.{step_keeps_passing}
use Rattle.model.proofs.DeliveredLaws.{completes_as_plain}
use Rattle.words.specs.View.{as_pointer, PointerWithin}
use Rattle.words.specs.declared.pointer.Pointer.{Pointer}
use Rattle.words.specs.declared.descriptor.Descriptor.{Descriptor}
use Rattle.state.specs.declared.Core.{Core}
use Rattle.state.specs.declared.After.{After}
use Rattle.state.specs.declared.End.{End}
use Rattle.state.specs.declared.End.TheVariants.{Completed, Halted, Faulted}
use Rattle.state.specs.View.{as_pointers, as_machine, ended, Does}
use Rattle.state.specs.Reply.{as_reply, ReplyWithin, completed}
use Rattle.dispatch.specs.Plain.{plain_step}
use Rattle.dispatch.specs.Dispatch.{dispatched_in}
use Rattle.dispatch.proofs.PlainLaws.{plain_completes, plain_halts, stop_within}
use Rattle.processor.specs.Step.{ReadyToPerform}
use Rattle.run.specs.Run.{run_by, trace_by, last_by, RanAs, noted_steps, Noted, Traced, Counted, OnTheWay, AtTheEnd}
use Rattle.run.specs.declared.Ran.{Ran}

-- AN INSTRUCTION PERFORMED is the step
pub performed_ends : (c : Core) (d : Descriptor) (prs m prs_now m_now : List ℕ) (w : ℕ) (t : Pointer) (i : ℕ) (x : After) → ReadyToPerform (as_machine c prs m) w t i →
    Does c d (as_pointers prs) m (dispatched_in (as_machine c prs m) w (as_pointer t)) x (as_pointers prs_now) m_now →
    ended (as_machine c prs m) (plain_step (as_machine c prs m)) x.end (as_machine x.core prs_now m_now)
performed_ends c d prs m prs_now m_now w t i x r h =
    subst (λ z. ended (as_machine c prs m) z x.end (as_machine x.core prs_now m_now)) (sym r.step_same) h.ends

-- 1 TO 4 PASS AGAIN, however a step ends
step_keeps : (m k : Machine) → start_questions no_delivery m ≡ 0 → (plain_step m ≡ completes k) ⊎ (plain_step m ≡ halts k) → start_questions no_delivery k ≡ 0
step_keeps m k e (inl s) = step_keeps_passing no_delivery m k e (inl ((completes_as_plain no_delivery m k).0 (plain_completes m k s)))
step_keeps m k e (inr s) = step_keeps_passing no_delivery m k e (inr ((completes_as_plain no_delivery m k).1 (plain_halts m k s)))

pub passing_after : (m : Machine) (x : End) (k : Machine) → ended m (plain_step m) x k → start_questions no_delivery m ≡ 0 → start_questions no_delivery k ≡ 0
unfolding ended
passing_after m Completed k s e = step_keeps m k e (inl s)
passing_after m Halted k s e = step_keeps m k e (inr s)
passing_after m (Faulted n t) k s e = ap (start_questions no_delivery) s.1 ∙ e

-- 64 words and a budget of 32 bits
pub total_fits : (t n b r : ℕ) → t ≤ 64 * n → n < b → b < 2 ^ 32 → r ≤ 64 → t + r < 2 ^ 64
total_fits t n b r h k l m = omega arith

-- a fault's pointer is in range
pub fault_within : (m : Machine) (n : ℕ) (t : Pointer) → start_questions no_delivery m ≡ 0 → plain_step m ≡ faults n (as_pointer t) → PointerWithin t
fault_within m n t e s =
    let h = stop_within no_delivery m n (as_pointer t) e s in record { ring_within = h.ring_within; segment_within = h.segment_within; word_within = h.word_within }

module _ (f : Machine → Outcome) (dv : Delivery) where
  -- A RUN, one step at a time
  module _ (b c : ℕ) (m : Machine) where
    pub run_faults : (n : ℕ) (t : Words.Pointer) → f m ≡ faults n t → run_by f (suc b) c m ≡ ran (Run.Reply.fault n c t) m
    unfolding run_by Run.run_on
    run_faults n t e = rw e

    pub run_halts : (k : Machine) → f m ≡ halts k → run_by f (suc b) c m ≡ ran (Run.Reply.halted (suc c)) k
    unfolding run_by Run.run_on
    run_halts k e = rw e

    pub run_completes : (k : Machine) → f m ≡ completes k → run_by f (suc b) c m ≡ run_by f b (suc c) k
    unfolding run_by Run.run_on
    run_completes k e = rw e

  module _ (b : ℕ) (m : Machine) where
    pub trace_faults : (n : ℕ) (t : Words.Pointer) → f m ≡ faults n t → trace_by f (suc b) m ≡ []
    unfolding trace_by Run.trace_on
    trace_faults n t e = rw e

    pub trace_halts : (k : Machine) → f m ≡ halts k → trace_by f (suc b) m ≡ Run.traced k (pointer_words m) ∷ []
    unfolding trace_by Run.trace_on
    trace_halts k e = rw e

    pub trace_completes : (k : Machine) → f m ≡ completes k → trace_by f (suc b) m ≡ Run.traced k (pointer_words m) ∷ trace_by f b k
    unfolding trace_by Run.trace_on
    trace_completes k e = rw e

  -- POINTER WORDS of a step
  module _ (b : ℕ) (m : Machine) where
    pub last_faults : (n : ℕ) (t : Words.Pointer) → f m ≡ faults n t → last_by f (suc b) m ≡ pointer_words m
    unfolding last_by Run.fault_count_on
    last_faults n t e = rw e refl

    pub last_halts : (k : Machine) → f m ≡ halts k → last_by f (suc b) m ≡ 0
    unfolding last_by Run.fault_count_on
    last_halts k e = rw e refl

    pub last_completes : (k : Machine) → f m ≡ completes k → last_by f (suc b) m ≡ last_by f b k
    unfolding last_by Run.fault_count_on
    last_completes k e = rw e refl

  total_of_more : (j : Machine) (r : ℕ) (l : List Run.Traced) → total_of (record { ipr = j.registers.ipr; pointers = r } ∷ l) ≡ r + total_of l
  unfolding total_of
  total_of_more j r l = refl

  total_of_one : (j : Machine) (r : ℕ) → total_of (record { ipr = j.registers.ipr; pointers = r } ∷ []) ≡ r
  unfolding total_of
  total_of_one j r = add-zero r

  -- ONE STEP ON THE WAY, of b with c behind
  module _ (b c : ℕ) (m : Machine) (t : List ℕ) where
    pub way_starts : c ≤ b → start_questions dv m ≡ 0 → OnTheWay f dv b c m t c 0 m t
    way_starts h e =
        record {
          within_budget = h;
          passes = e;
          size_same = refl;
          trace_size = refl;
          run_same = refl;
          trace_same = λ _. refl;
          total_same = sym (zero-add (total_of (trace_by f (b - c) m)));
          last_same = refl;
        }

    module _ (n done : ℕ) (k : Machine) (u : List ℕ) (way : OnTheWay f dv b c m t n done k u) (h : n < b) (r : ℕ) (read : pointer_words k ≡ r) where
      left : b - n ≡ suc (b - suc n)
      left = omega arith

      after : b - (n + 1) ≡ b - suc n
      after = omega arith

      module _ (j : Machine) where
        -- a fault, which leaves the machine
        pub way_faults : (i : ℕ) (p : Pointer) → f k ≡ faults i (as_pointer p) → j ≡ k → AtTheEnd f dv b c m t (Run.Reply.fault i n (as_pointer p)) n done r j u
        unfolding total_of
        way_faults i p s g =
            record {
              passes = ap (start_questions dv) g ∙ way.passes;
              trace_size = way.trace_size;
              run_same =
                  way.run_same ∙ ap (λ z. run_by f z n k) left ∙ run_faults (b - suc n) n k i (as_pointer p) s ∙ ap (ran (Run.Reply.fault i n (as_pointer p))) (sym g);
              trace_same =
                  λ room.
                  way.trace_same room
                  ∙ ap (λ z. noted_steps (take n u) ++ z) (ap (λ z. trace_by f z k) left ∙ trace_faults (b - suc n) k i (as_pointer p) s)
                  ∙ append-nil (noted_steps (take n u));
              total_same =
                  way.total_same ∙ ap (λ z. done + total_of (trace_by f z k)) left ∙ ap (λ l. done + total_of l) (trace_faults (b - suc n) k i (as_pointer p) s) ∙ add-zero done;
              last_same = way.last_same ∙ ap (λ z. last_by f z k) left ∙ last_faults (b - suc n) k i (as_pointer p) s ∙ read;
            }

        here : Run.Traced
        here = record { ipr = j.registers.ipr; pointers = r }

        traced_here : Run.traced j (pointer_words k) ≡ here
        unfolding Run.traced here
        traced_here = ap (λ c. record { ipr = j.registers.ipr; pointers = c }) read

        module _ (v : List ℕ) (w : Noted n (record { ipr = j.registers.ipr; pointers = r }) u v) where
          noted_here : b ≤ length t → noted_steps (take (n + 1) v) ≡ noted_steps (take n u) ++ here ∷ []
          unfolding here
          noted_here room = w.noted (let z = way.trace_size in omega arith)

          pub way_halts : f k ≡ halts j → start_questions dv j ≡ 0 → AtTheEnd f dv b c m t (Run.Reply.halted (n + 1)) (n + 1) (done + r) 0 j v
          unfolding here
          way_halts s e =
              record {
                passes = e;
                trace_size = w.size_same ∙ way.trace_size;
                run_same =
                    way.run_same ∙ ap (λ z. run_by f z n k) left ∙ run_halts (b - suc n) n k j s
                    ∙ ap (λ z. ran (Run.Reply.halted z) j) (sym (add-one n));
                trace_same =
                    λ room.
                    way.trace_same room
                    ∙ ap (λ z. noted_steps (take n u) ++ z) (ap (λ z. trace_by f z k) left ∙ trace_halts (b - suc n) k j s ∙ ap (λ x. x ∷ []) traced_here)
                    ∙ sym (noted_here room);
                total_same =
                    way.total_same ∙ ap (λ l. done + total_of l) (ap (λ z. trace_by f z k) left ∙ trace_halts (b - suc n) k j s ∙ ap (λ x. x ∷ []) traced_here)
                    ∙ ap (λ z. done + z) (total_of_one j r);
                last_same = way.last_same ∙ ap (λ z. last_by f z k) left ∙ last_halts (b - suc n) k j s;
              }

          pub way_goes_on : f k ≡ completes j → start_questions dv j ≡ 0 → length j.memory ≡ length k.memory → OnTheWay f dv b c m t (n + 1) (done + r) j v
          unfolding here
          way_goes_on s e z =
              record {
                within_budget = omega arith;
                passes = e;
                size_same = z ∙ way.size_same;
                trace_size = w.size_same ∙ way.trace_size;
                run_same =
                    way.run_same ∙ ap (λ z. run_by f z n k) left ∙ run_completes (b - suc n) n k j s
                    ∙ ap (λ z. run_by f (b - z) z j) (sym (add-one n));
                trace_same =
                    λ room.
                    way.trace_same room
                    ∙ ap (λ z. noted_steps (take n u) ++ z) goes_trace
                    ∙ sym (append_assoc (noted_steps (take n u)) (here ∷ []) (trace_by f (b - suc n) j))
                    ∙ ap (λ l. l ++ trace_by f (b - suc n) j) (sym (noted_here room))
                    ∙ ap (λ z. noted_steps (take (n + 1) v) ++ trace_by f z j) (sym after);
                total_same =
                    way.total_same ∙ ap (λ l. done + total_of l) goes_trace ∙ ap (λ z. done + z) (total_of_more j r (trace_by f (b - suc n) j))
                    ∙ sym (add_assoc done r (total_of (trace_by f (b - suc n) j))) ∙ ap (λ z. done + r + total_of (trace_by f z j)) (sym after);
                last_same = way.last_same ∙ ap (λ z. last_by f z k) left ∙ last_completes (b - suc n) k j s ∙ ap (λ z. last_by f z j) (sym after);
              }
            where
              goes_trace : trace_by f (b - n) k ≡ here ∷ trace_by f (b - suc n) j
              goes_trace = ap (λ z. trace_by f z k) left ∙ trace_completes (b - suc n) k j s ∙ ap (λ x. x ∷ trace_by f (b - suc n) j) traced_here

  -- STRETCHES OF THE WAY, one after the other
  module _ (b c : ℕ) (m : Machine) (t : List ℕ) (n done : ℕ) (k : Machine) (u : List ℕ) (way : OnTheWay f dv b c m t n done k u) where
    pub way_joins : (i r : ℕ) (j : Machine) (v : List ℕ) → OnTheWay f dv b n k u i r j v → OnTheWay f dv b c m t i (done + r) j v
    way_joins i r j v more =
        record {
          within_budget = more.within_budget;
          passes = more.passes;
          size_same = more.size_same ∙ way.size_same;
          trace_size = more.trace_size ∙ way.trace_size;
          run_same = way.run_same ∙ more.run_same;
          trace_same = λ room. way.trace_same room ∙ more.trace_same (let z = way.trace_size in omega arith);
          total_same = way.total_same ∙ ap (λ z. done + z) more.total_same ∙ sym (add_assoc done r (total_of (trace_by f (b - i) j)));
          last_same = way.last_same ∙ more.last_same;
        }

    pub way_ends : (r : Run.Reply) (i s l : ℕ) (j : Machine) (v : List ℕ) → AtTheEnd f dv b n k u r i s l j v → AtTheEnd f dv b c m t r i (done + s) l j v
    way_ends r i s l j v end =
        record {
          passes = end.passes;
          trace_size = end.trace_size ∙ way.trace_size;
          run_same = way.run_same ∙ end.run_same;
          trace_same = λ room. way.trace_same room ∙ end.trace_same (let z = way.trace_size in omega arith);
          total_same = way.total_same ∙ ap (λ z. done + z) end.total_same;
          last_same = way.last_same ∙ end.last_same;
        }

    -- the budget is spent
    pub way_spent : b ≤ n → AtTheEnd f dv b c m t (Run.Reply.spent n) n done 0 k u
    unfolding run_by trace_by total_of last_by
    way_spent h =
        let none : b - n ≡ 0 = omega arith in
        record {
          passes = way.passes;
          trace_size = way.trace_size;
          run_same = way.run_same ∙ ap (λ z. run_by f z n k) none;
          trace_same = λ room. way.trace_same room ∙ ap (λ z. noted_steps (take n u) ++ trace_by f z k) none ∙ append-nil (noted_steps (take n u));
          total_same = way.total_same ∙ ap (λ z. done + total_of (trace_by f z k)) none ∙ add-zero done;
          last_same = way.last_same ∙ ap (λ z. last_by f z k) none;
        }

  -- THE ANSWER, where the way began with the run
  pub answers : (b : ℕ) (m : Machine) (t : List ℕ) (x : Ran) (k : Machine) (u : List ℕ) → AtTheEnd f dv b 0 m t (as_reply x.reply) (completed x.reply) x.total x.last k u →
      ReplyWithin x.reply → RanAs dv (run_by f b 0 m) x k × Traced f b m x t u × Counted f b m x
  answers b m t x k u end within = (
    record { same = ap (λ n. run_by f n 0 m) all_left ∙ end.run_same; pointer_within = within; passes = end.passes },
    record { size_same = end.trace_size; traced = λ room. sym (ap (λ n. trace_by f n m) all_left ∙ end.trace_same room) },
    record {
      total_same = sym (ap (λ n. total_of (trace_by f n m)) all_left ∙ end.total_same);
      last_same = sym (ap (λ n. last_by f n m) all_left ∙ end.last_same);
    },
  )
    where
      all_left : b ≡ b - 0
      all_left = omega arith
