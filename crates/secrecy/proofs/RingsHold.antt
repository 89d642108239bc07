-- Demand 3 proved: for every n from 1, every budget, and refused and faulting runs as well. Assumes nothing.
use mathlib.Core.Path.{◌≡◌, refl, sym, ◌∙◌, ap, ap₂, subst}
use mathlib.Core.Bool.{true, not, ◌||◌}
use mathlib.Core.List.{List, ◌++◌}
use Prim.Native.Nat.{ℕ, zero, suc, ◌+◌, ◌≤◌, ◌<◌}
use native.Mathlib.Nat.{le_refl}
use native.Mathlib.Omega.{arith}
use lib.Dec.{leb}
use lib.ListN.{length}
use borrow.Author.Tests.{leb-true, eqb-true, le-ltb}
use Rattle.model.specs.Registers.{Registers, Delivery, Machine, machine}
use Rattle.model.specs.Questions.{ask, memory_fits, registers_in_range, rings_at_least, dbr_fits, start_questions}
use Rattle.model.specs.Reach.{is_descriptor_word, segment_passes, observable_through, writable_through, observable, writable}
use Rattle.model.specs.Run as Model
use Rattle.model.specs.Run.{ran, unless_refused, single_count, total_of, total}
use Rattle.model.specs.Listing.{step_lines, last_line, listing}
use Rattle.model.proofs.BranchLaws.{and_left, and_right, or_left, or_right}
use Rattle.model.proofs.QuestionLaws.{ask_yes, segment_known}
use Rattle.secrecy.specs.Statement.{Agree, DescriptorsUnwritable, Alike, RingsHold, ListingsAlike}
use Rattle.model.proofs.ReachLaws.{some_below_has}
use Rattle.secrecy.proofs.View.{View, Views, no_change}
use Rattle.secrecy.proofs.Lockstep.{AlikeRan, run_from, stretch, inside_before}
use Rattle.model.proofs.RunLaws.{run_refused, trace_refused}
use Rattle.model.proofs.DescriptorLaws.{is_descriptor_word_of}
use Rattle.secrecy.proofs.Runs.{next, reply_of, ran_of, above, leaves, run_goes_ahead, after_goes_ahead, trace_goes_ahead, stretch_goes_ahead, after_refused, stretch_refused}
use Rattle.secrecy.proofs.Plain.{Twin, twin_count, twins_stretch, twins_run, twins_trace}

-- 1 to 4 ask nothing of memory but its length
pub same_start_questions : (w : Delivery) (m k : Machine) → m.registers ≡ k.registers → length m.memory ≡ length k.memory → start_questions w m ≡ start_questions w k
unfolding start_questions
same_start_questions w m k same e =
    ap₂ (λ r size. ask (memory_fits size) 1 (ask (registers_in_range w r) 2 (ask (rings_at_least r.ipr.ring r.prs) 3 (ask (dbr_fits size r.dbr) 4 0)))) same e

-- 4: the descriptor segment is within memory
pub descriptors_within_memory : (w : Delivery) (m : Machine) → start_questions w m ≡ 0 → m.registers.dbr.address + m.registers.dbr.length ≤ length m.memory
unfolding start_questions dbr_fits
descriptors_within_memory w m e =
    leb-true _ _ (and_right (leb m.registers.dbr.length 4096) _ (ask_yes _ _ _ (ask_yes _ _ _ (ask_yes _ _ _ (ask_yes _ _ _ e).1).1).1).0)

-- WHAT RINGS FROM n UP OBSERVE AND WRITE at the start
unfoldable pub view_at : (ring : ℕ) → (start : Machine) → View
view_at n start = record { observable = λ x. is_descriptor_word start x || observable n start x; writable = writable n start }

pub views_start : (w : Delivery) (n : ℕ) (m : Machine) → start_questions w m ≡ 0 → DescriptorsUnwritable n m → Views n (view_at n m) m
unfolding view_at DescriptorsUnwritable observable writable observable_through writable_through segment_passes
views_start w n m e u =
    let z = descriptors_within_memory w m e in
    record {
      descriptors_observable = λ s h. or_left _ _ (is_descriptor_word_of m s h (omega arith));
      descriptors_unwritable = λ s h. u _ (is_descriptor_word_of m s h (omega arith));
      has_observable = λ x s o.
          or_right (is_descriptor_word m x) (observable n m x)
          (some_below_has (observable_through n m x) m.registers.dbr.length s (segment_known _ _ _ _ (eqb-true _ _ (and_left (segment_passes m s) _ o))) o);
      has_writable = λ x s o.
          some_below_has (writable_through n m x) m.registers.dbr.length s (segment_known _ _ _ _ (eqb-true _ _ (and_left (segment_passes m s) _ o))) o;
    }

module _ (w : Delivery) (n b : ℕ) (r : Registers) (m k : List ℕ) (one : 1 ≤ n) (in_ring : n ≤ r.ipr.ring) (same_length : length m ≡ length k)
    (agree : Agree n (machine r m) m k) (unwritable : DescriptorsUnwritable n (machine r m)) where
  alike_refused : (c : ℕ) → start_questions w (machine r m) ≡ suc c → start_questions w (machine r k) ≡ suc c → Alike w n b r m k
  unfolding ran machine Agree single_count unless_refused
  alike_refused c e d =
      let after_m = after_refused w c (machine r m) e in
      let after_k = after_refused w c (machine r k) d in
      record {
        same_stretch = stretch_refused w n b c (machine r m) e ∙ sym (stretch_refused w n b c (machine r k) d);
        same_reply = rw (run_refused w _ c (machine r m) e, run_refused w _ c (machine r k) d);
        same_count = λ j h. rw (after_m j, after_k j, e, d);
        same_trace = rw (trace_refused w _ c (machine r m) e, trace_refused w _ c (machine r k) d);
        same_registers = λ j h. rw (after_m j, after_k j);
        same_words = λ j h x o. rw (after_m j, after_k j) (agree x o);
        unchanged = λ j x h o. (rw (after_m j), rw (after_k j));
      }

  start_twin : start_questions w (machine r m) ≡ 0 → Twin n (view_at n (machine r m)) m k (machine r m) (machine r k)
  unfolding machine view_at Agree
  start_twin e =
      record {
        same_registers = refl;
        indistinct = record { views = views_start w n (machine r m) e unwritable; same_dbr = refl; same_length = same_length; agrees = agree };
        changed_m = no_change _ m;
        changed_k = no_change _ k;
      }

  start_above : above n (machine r m) ≡ true
  unfolding above machine
  start_above = ap not (le-ltb r.ipr.ring n in_ring)

  after_twin : start_questions w (machine r m) ≡ 0 → (j : ℕ) → j ≤ Model.stretch w n b (machine r m) →
      AlikeRan (Twin n (view_at n (machine r m)) m k) (run_from (next w) j 0 (machine r m)) (run_from (next w) j 0 (machine r k))
  after_twin e j h =
      twins_run w n _ m k one j b 0 (machine r m) (machine r k) (start_twin e) start_above (subst (λ s. j ≤ s) (stretch_goes_ahead w n b (machine r m) e) h)

  count_twin : start_questions w (machine r m) ≡ 0 → (j : ℕ) → j < Model.stretch w n b (machine r m) →
      single_count w (run_from (next w) j 0 (machine r m)).state ≡ single_count w (run_from (next w) j 0 (machine r k)).state
  unfolding single_count
  count_twin e j h =
      let a = (after_twin e j (omega arith)).alike_state in
      let inside = inside_before (next w) (above n) (leaves w) j b 0 (machine r m) start_above (subst (λ s. j < s) (stretch_goes_ahead w n b (machine r m) e) h) in
      ap₂ (λ q c. unless_refused q (λ z. 0) c) (same_start_questions w _ _ a.same_registers a.indistinct.same_length) (twin_count w n _ m k one a inside)

  alike_ahead : start_questions w (machine r m) ≡ 0 → start_questions w (machine r k) ≡ 0 → Alike w n b r m k
  unfolding ran_of ran view_at Agree
  alike_ahead e d =
      let after_m = after_goes_ahead w (machine r m) e in
      let after_k = after_goes_ahead w (machine r k) d in
      let same = stretch_goes_ahead w n b (machine r m) e ∙ twins_stretch w n _ m k one b _ _ (start_twin e) start_above ∙ sym (stretch_goes_ahead w n b (machine r k) d) in
      let twin = after_twin e in
      record {
        same_stretch = same;
        same_reply =
            rw (← same, run_goes_ahead w _ (machine r m) e, run_goes_ahead w _ (machine r k) d)
            (ap₂ reply_of (twin _ (le_refl _)).same_count (twin _ (le_refl _)).same_end);
        same_count = λ j h. rw (after_m j, after_k j) (count_twin e j h);
        same_trace =
            rw (← same, trace_goes_ahead w _ (machine r m) e, trace_goes_ahead w _ (machine r k) d)
            (twins_trace w n _ m k one _ b _ _ (start_twin e) start_above (subst (λ s. Model.stretch w n b (machine r m) ≤ s) (stretch_goes_ahead w n b (machine r m) e) (le_refl _)));
        same_registers = λ j h. rw (after_m j, after_k j) (twin j h).alike_state.same_registers;
        same_words = λ j h x o. rw (after_m j, after_k j) ((twin j h).alike_state.indistinct.agrees x o);
        unchanged = λ j x h o. (
          rw (after_m j) (sym ((twin j h).alike_state.changed_m.words_kept x o)),
          rw (after_k j) (sym ((twin j h).alike_state.changed_k.words_kept x o)),
        );
      }

  same_start : start_questions w (machine r m) ≡ start_questions w (machine r k)
  unfolding machine
  same_start = same_start_questions w (machine r m) (machine r k) refl same_length

  alike : (c : ℕ) → start_questions w (machine r m) ≡ c → Alike w n b r m k
  alike zero e = alike_ahead e (sym same_start ∙ e)
  alike (suc c) e = alike_refused c e (sym same_start ∙ e)

pub rings_hold : RingsHold
rings_hold w n b r m k one in_ring same_length agree unwritable = alike w n b r m k one in_ring same_length agree unwritable _ refl

-- A listing has nothing beside the trace and the reply
pub listings_alike : ListingsAlike
unfolding listing total
listings_alike w n b r m k a = ap₂ (λ t p. step_lines 0 t ++ last_line p (total_of t)) a.same_trace a.same_reply
