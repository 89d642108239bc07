-- The step that stopped: what 1 to 4 give, its fault delivered or not, and RCU's own end. Assumes nothing.
use mathlib.Core.Path.{◌≡◌, refl, sym, ◌∙◌, ap, subst}
use mathlib.Core.Bool.{Bool, true, false}
use mathlib.Core.List.{List}
use Prim.Native.Nat.{ℕ, zero, suc}
use lib.ListN.{length}
use Rattle.model.specs.Words as Words
use Rattle.model.specs.Registers.{Delivery, Machine, machine, with_ipr}
use Rattle.model.specs.Questions.{start_questions}
use Rattle.model.specs.Program.{faults, completes, execute}
use Rattle.model.specs.Step as Step
use Rattle.model.specs.Step.{step}
use Rattle.model.specs.Deliver.{delivers, saved, deliver, step_with}
use Rattle.model.proofs.FaultLaws.{fault_pointer_within}
use Rattle.model.proofs.DeliveredLaws.{completes_as_plain, unsaved_as_plain}
use Rattle.words.specs.View.{as_pointer, PointerWithin}
use Rattle.words.specs.declared.pointer.Pointer.{Pointer}
use Rattle.state.specs.View.{as_pointers, as_machine, Becomes, ended}
use Rattle.state.specs.declared.Core.{Core}
use Rattle.state.proofs.PassingLaws.{ipr_passing, prs_in_range, address_passing, length_passing, ready_passing}
use Rattle.state.specs.declared.End.TheVariants.{Completed, Halted, Faulted}
use Rattle.dispatch.specs.Plain.{stopped}
use Rattle.restore.specs.declared.Settled.{Settled}
use Rattle.frames.specs.Frame.{Savable, Delivers}
use Rattle.restore.specs.Taken.{EndsAs}
use Rattle.settle.specs.Settles.{Settles}

module _ (dv : Delivery) where
  -- WHAT 1 TO 4 GIVE
  module _ (c : Core) (prs m : List ℕ) (e : start_questions dv (as_machine c prs m) ≡ 0) where
    pub savable_passing : Savable c prs
    savable_passing =
        record {
          ipr_within = ipr_passing _ c prs m e;
          address_within = address_passing _ c prs m e;
          length_within = length_passing _ c prs m e;
          prs_in_range = prs_in_range _ c prs m e;
        }

  -- A STEP THAT FAULTS: what delivering answered
  module _ (c : Core) (prs m : List ℕ) (n : ℕ) (t : Pointer) (s : step (as_machine c prs m) ≡ faults n (as_pointer t)) (m_now : List ℕ) (a : Bool)
      (d : Delivers dv n (as_pointer t) (as_machine c prs m) a m_now) where
    delivered_step : delivers dv (as_machine c prs m) ≡ true → step_with dv (as_machine c prs m) ≡ completes (saved dv n (as_pointer t) (as_machine c prs m))
    unfolding step_with deliver
    delivered_step e = rw (s, e)

    pub fault_delivered : a ≡ true → (h : Core) → Becomes c (with_ipr (record { ring = 0; segment = dv.handler; word = 0 })) h →
        Settles dv (as_machine c prs m) (record { core = h; end = Completed }) (as_machine h prs m_now)
    unfolding ended saved machine
    fault_delivered f h g =
        record {
          ends =
              delivered_step (sym d.same ∙ f)
              ∙ ap completes (sym (λ j. record { registers = g.registers_same (as_pointers prs) j; memory = d.written f j }));
          within = tt;
        }

    pub fault_stays : a ≡ false → PointerWithin t → Settles dv (as_machine c prs m) (record { core = c; end = Faulted n t }) (as_machine c prs m_now)
    unfolding ended
    fault_stays f w =
        record {
          ends = (unsaved_as_plain dv (as_machine c prs m) (sym d.same ∙ f) ∙ s, λ j. as_machine c prs (d.kept f j));
          within = w;
        }

  -- IT STOPPED WITH A FAULT
  pub stopped_faults : (m : Machine) (size n : ℕ) (t : Words.Pointer) → step m ≡ execute m (stopped size n t) → (n ≡ 0 → ⊥) → step m ≡ faults n t
  unfolding stopped execute
  stopped_faults m size zero t s z = absurd (z refl)
  stopped_faults m size (suc n) t s z = s

  -- IT STOPPED AT RCU, which has ended
  module _ (c : Core) (prs m : List ℕ) (n : ℕ) (u : Words.Pointer) (s : step (as_machine c prs m) ≡ execute (as_machine c prs m) (stopped (length m) n u)) (z : n ≡ 0)
      (x : Settled) (prs_now m_now : List ℕ) (h : EndsAs c (as_pointers prs) m (Step.restore (length m) u) x (as_pointers prs_now) m_now) where
    as_step : ended (as_machine c prs m) (step (as_machine c prs m)) x.end (as_machine x.core prs_now m_now)
    unfolding stopped
    as_step =
        subst (λ o. ended (as_machine c prs m) o x.end (as_machine x.core prs_now m_now))
        (sym (s ∙ ap (λ i. execute (as_machine c prs m) (stopped (length m) i u)) z)) h.ends

    pub restore_completes : x.end ≡ Completed → Settles dv (as_machine c prs m) x (as_machine x.core prs_now m_now)
    unfolding ended
    restore_completes e =
        subst (λ z. Settles dv (as_machine c prs m) (record { core = x.core; end = z }) (as_machine x.core prs_now m_now)) (sym e)
        (record { ends = (completes_as_plain dv _ _).0 (rw e at as_step); within = tt })

    pub restore_halts : x.end ≡ Halted → Settles dv (as_machine c prs m) x (as_machine x.core prs_now m_now)
    unfolding ended
    restore_halts e =
        subst (λ z. Settles dv (as_machine c prs m) (record { core = x.core; end = z }) (as_machine x.core prs_now m_now)) (sym e)
        (record { ends = (completes_as_plain dv _ _).1 (rw e at as_step); within = tt })

    module _ (i : ℕ) (p : Pointer) (e : x.end ≡ Faulted i p) where
      faulted_step : (step (as_machine c prs m) ≡ faults i (as_pointer p)) × (as_machine x.core prs_now m_now ≡ as_machine c prs m)
      unfolding ended
      faulted_step = rw e at as_step

      pub restore_faults : step (as_machine x.core prs_now m_now) ≡ faults i (as_pointer p)
      restore_faults = ap step faulted_step.1 ∙ faulted_step.0

      pub restore_settles : (y : Settled) (k : Machine) → Settles dv (as_machine x.core prs_now m_now) y k → Settles dv (as_machine c prs m) y k
      restore_settles y k f = subst (λ o. Settles dv o y k) faulted_step.1 f

      module _ (q : start_questions dv (as_machine c prs m) ≡ 0) where
        pub restore_passes : start_questions dv (as_machine x.core prs_now m_now) ≡ 0
        restore_passes = ap (start_questions dv) faulted_step.1 ∙ q

        pub restore_within : PointerWithin p
        restore_within =
            let w = fault_pointer_within dv (as_machine c prs m) i (as_pointer p) q faulted_step.0 in
            record { ring_within = w.ring_within; segment_within = w.segment_within; word_within = w.word_within }

pub ruleset faultings = (ready_passing, savable_passing, fault_delivered, fault_stays)

pub ruleset settlings = (ready_passing, stopped_faults, restore_completes, restore_halts, restore_faults, restore_settles, restore_passes, restore_within)
