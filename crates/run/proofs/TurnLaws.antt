-- The inner loop: what a turn needs, what it leaves, and its ways out. Assumes nothing.
use mathlib.Core.Path.{◌≡◌, refl, sym, ◌∙◌, subst}
use mathlib.Core.Bool.{Bool, true, false}
use mathlib.Core.List.{List}
use Prim.Native.Nat.{ℕ, ◌+◌, ◌-◌, ◌≤◌, ◌<◌}
use native.Mathlib.Omega.{arith}
use lib.Dec.{T}
use lib.ListN.{length}
use Rattle.model.specs.Registers.{no_delivery, Machine}
use Rattle.model.specs.Questions.{all, pointer_in_range, start_questions}
use Rattle.model.specs.Run as Run
use Rattle.model.proofs.TickLaws.{pointer_words_within}
use Rattle.model.proofs.ProgramLaws.{SizeKept, execute_keeps_size}
use Rattle.words.specs.View.{as_pointer, PointerWithin}
use Rattle.words.specs.declared.pointer.Pointer.{Pointer}
use Rattle.segments.specs.Translation.{CodeRight}
use Rattle.state.specs.declared.After.{After}
use Rattle.state.specs.declared.End.TheVariants.{Completed, Halted, Faulted}
use Rattle.state.specs.View.{as_pointers, as_machine, Ready, ended, Does}
use Rattle.state.proofs.PassingLaws.{prs_in_range, ready_passing, ipr_passing}
use Rattle.dispatch.specs.Plain.{plain_program, plain_step}
use Rattle.dispatch.specs.Dispatch.{dispatched_in}
use Rattle.processor.specs.Step.{ReadyToPerform, QuicklyFormed}
use Rattle.std.proofs.Common.{Option, Some, None}
use Rattle.processor.specs.declared.Instruction.{Instruction}
use Rattle.run.specs.Run.{Noted, OnTheWay, AtTheEnd, WentAs, NextFormed}
use Rattle.run.proofs.RunLaws.{performed_ends, passing_after, way_starts, way_faults, way_halts, way_goes_on, fault_within}

-- before a turn: the way so far, a right code descriptor, and while the loop goes on an instruction that is formed
pub record Turning (b s r : ℕ) (m : Machine) (t₀ : List ℕ) (x : After) (prs memory trace : List ℕ) (w : ℕ) (t : Pointer) (p count : ℕ) (going : Bool) : Type 0 where
  -- the pointer words of the steps so far: none before the first, and after it all
  pub done : ℕ
  pub way : OnTheWay plain_step no_delivery b s m t₀ count done (as_machine x.core prs memory) trace
  pub code : CodeRight x.code.0 x.core.ipr.ring (length memory)
  pub ready : going ≡ true → (count < b) × ReadyToPerform (as_machine x.core prs memory) w t p
  pub done_before : going ≡ true → done + p ≡ r
  pub done_after : going ≡ false → done ≡ r
  pub read_within : r ≤ 64
  pub reached : s ≤ count
  pub moved : going ≡ false → s < count

impossible : {A : Type 0} → true ≡ false → A
impossible e = absurd (subst T e tt)

pub turning_starts : (b s r : ℕ) (x : After) (prs memory trace : List ℕ) (w : ℕ) (t : Pointer) → start_questions no_delivery (as_machine x.core prs memory) ≡ 0 →
    ReadyToPerform (as_machine x.core prs memory) w t r → CodeRight x.code.0 x.core.ipr.ring (length memory) → s < b →
    Turning b s r (as_machine x.core prs memory) trace x prs memory trace w t r s true
turning_starts b s r x prs memory trace w t e y c h =
    record {
      done = 0;
      way = way_starts _ _ b s _ trace (omega arith) e;
      code = c;
      ready = λ _. (h, y);
      done_before = λ _. omega arith;
      done_after = λ z. impossible z;
      read_within = let k = pointer_words_within (as_machine x.core prs memory) in let q = y.counted in omega arith;
      reached = omega arith;
      moved = λ z. impossible z;
    }

module _ (b s r : ℕ) (m : Machine) (t₀ : List ℕ) (x : After) (prs memory trace : List ℕ) (w : ℕ) (t : Pointer) (i count : ℕ) (going : Bool)
    (inv : Turning b s r m t₀ x prs memory trace w t i count going) where
  pub memory_size : length memory ≡ length m.memory
  memory_size = inv.way.size_same

  pub trace_size : length trace ≡ length t₀
  trace_size = inv.way.trace_size

  -- the loop has stopped
  pub turn_ends : going ≡ false → WentAs b s m t₀ (record { core = x.core; count = count; end = Completed; read = r; last = 0 }) (as_machine x.core prs memory) trace
  turn_ends e =
      record { led = (subst (λ d. OnTheWay plain_step no_delivery b s m t₀ count d (as_machine x.core prs memory) trace) (inv.done_after e) inv.way, inv.moved e); read_within = inv.read_within }

  module _ (e : going ≡ true) where
    pub turn_below : count < b
    turn_below = (inv.ready e).0

    pub turn_part : i ≤ r
    turn_part = let h = inv.done_before e in omega arith

    pub turn_pointers : i ≤ 64
    turn_pointers = let h = turn_part in let k = inv.read_within in omega arith

    pub turn_needs : Ready x.core memory × (all pointer_in_range (as_pointers prs) ≡ true) × PointerWithin t
    turn_needs = (ready_passing _ x.core prs memory inv.way.passes, prs_in_range _ x.core prs memory inv.way.passes, (inv.ready e).1.within)

    module _ (y : After) (prs_now memory_now : List ℕ)
        (h : Does x.core x.code (as_pointers prs) memory (dispatched_in (as_machine x.core prs memory) w (as_pointer t)) y (as_pointers prs_now) memory_now) where
      stepped : ended (as_machine x.core prs memory) (plain_step (as_machine x.core prs memory)) y.end (as_machine y.core prs_now memory_now)
      stepped = performed_ends x.core x.code prs memory prs_now memory_now w t i y (inv.ready e).1 h

      pub turn_passes : start_questions no_delivery (as_machine y.core prs_now memory_now) ≡ 0
      turn_passes = passing_after _ y.end _ stepped inv.way.passes

      pub turn_ipr : PointerWithin y.core.ipr
      turn_ipr = ipr_passing _ y.core prs_now memory_now turn_passes

      -- a fault
      pub turn_faults : (n : ℕ) (p : Pointer) → y.end ≡ Faulted n p →
          WentAs b s m t₀ (record { core = y.core; count = count; end = Faulted n p; read = r - i; last = i }) (as_machine y.core prs_now memory_now) trace
      unfolding ended
      turn_faults n p f =
          let q = rw f at stepped in
          record {
            led = (
              subst (λ d. AtTheEnd plain_step no_delivery b s m t₀ (Run.Reply.fault n count (as_pointer p)) count d i (as_machine y.core prs_now memory_now) trace)
                  (let h = inv.done_before e in let z : inv.done ≡ r - i = omega arith in z)
                  (way_faults _ _ b s m t₀ count inv.done (as_machine x.core prs memory) trace inv.way turn_below i (inv.ready e).1.counted (as_machine y.core prs_now memory_now) n p q.0 q.1),
              fault_within (as_machine x.core prs memory) n p inv.way.passes q.0,
            );
            read_within = let k = inv.read_within in omega arith;
          }

      module _ (trace_now : List ℕ) (z : Noted count (record { ipr = as_pointer y.core.ipr; pointers = i }) trace trace_now) where
        -- HLT
        pub turn_halts : y.end ≡ Halted →
            WentAs b s m t₀ (record { core = y.core; count = count + 1; end = Halted; read = r; last = 0 }) (as_machine y.core prs_now memory_now) trace_now
        unfolding ended
        turn_halts f =
            record {
              led =
                  subst (λ d. AtTheEnd plain_step no_delivery b s m t₀ (Run.Reply.halted (count + 1)) (count + 1) d 0 (as_machine y.core prs_now memory_now) trace_now) (inv.done_before e)
                  (way_halts _ _ b s m t₀ count inv.done (as_machine x.core prs memory) trace inv.way turn_below i (inv.ready e).1.counted (as_machine y.core prs_now memory_now) trace_now z
                  (subst (λ o. ended (as_machine x.core prs memory) (plain_step (as_machine x.core prs memory)) o (as_machine y.core prs_now memory_now)) f stepped) turn_passes);
              read_within = inv.read_within;
            }

        module _ (f : y.end ≡ Completed) where
          size_kept : length memory_now ≡ length memory
          unfolding ended plain_step
          size_kept =
              subst (SizeKept (length memory))
              (rw f at stepped)
              (execute_keeps_size (as_machine x.core prs memory) (plain_program (length memory) (as_machine x.core prs memory).registers))

          way_next : OnTheWay plain_step no_delivery b s m t₀ (count + 1) r (as_machine y.core prs_now memory_now) trace_now
          unfolding ended
          way_next =
              subst (λ d. OnTheWay plain_step no_delivery b s m t₀ (count + 1) d (as_machine y.core prs_now memory_now) trace_now) (inv.done_before e)
              (way_goes_on _ _ b s m t₀ count inv.done (as_machine x.core prs memory) trace inv.way turn_below i (inv.ready e).1.counted (as_machine y.core prs_now memory_now) trace_now z
              (subst (λ o. ended (as_machine x.core prs memory) (plain_step (as_machine x.core prs memory)) o (as_machine y.core prs_now memory_now)) f stepped) turn_passes size_kept)

          pub turn_code : CodeRight y.code.0 y.core.ipr.ring (length memory_now)
          turn_code = rw size_kept (h.code_kept inv.code)

          further : s < count + 1
          further = let r = inv.reached in omega arith

          pub turn_stops : (v : ℕ) (p : Pointer) (k : ℕ) → Turning b s r m t₀ y prs_now memory_now trace_now v p k (count + 1) false
          turn_stops v p k =
              record {
                done = r;
                way = way_next;
                code = turn_code;
                ready = λ g. impossible (sym g);
                done_before = λ g. impossible (sym g);
                done_after = λ _. refl;
                read_within = inv.read_within;
                reached = let a = inv.reached in omega arith;
                moved = λ _. further;
              }

          pub turn_goes_on : (j : Instruction) (q : Option Instruction) → NextFormed (count + 1) b (as_machine y.core prs_now memory_now) q → q ≡ Some j →
              Turning b s r m t₀ y prs_now memory_now trace_now j.word j.pointer 0 (count + 1) going
          turn_goes_on j q k g =
              let h = rw g at k in
              record {
                done = r;
                way = way_next;
                code = turn_code;
                ready = λ _. (h.1, h.0);
                done_before = λ _. omega arith;
                done_after = λ _. refl;
                read_within = inv.read_within;
                reached = let a = inv.reached in omega arith;
                moved = λ z. impossible (sym e ∙ z);
              }

-- the quick way, with budget left
pub next_law : (c b : ℕ) (m : Machine) (x : Option Instruction) → QuicklyFormed m x → c < b → NextFormed c b m x
next_law c b m None q h = tt
next_law c b m (Some i) q h = (q, h)
