-- What a run on a record's parts answers, from the run on the core's numbers. Assumes nothing.
use mathlib.Core.Path.{◌≡◌, refl, ◌∙◌, ap, ap₂}
use mathlib.Core.Bool.{Bool}
use mathlib.Core.List.{List}
use Prim.Native.Nat.{ℕ, ◌≤◌}
use Rattle.model.specs.Registers as Registers
use Rattle.model.specs.Registers.{Machine}
use Rattle.model.specs.Answers.{reply_numbers}
use Rattle.model.specs.Run.{run}
use Rattle.words.specs.View.{as_pointer}
use Rattle.words.specs.declared.pointer.Pointer as Core
use Rattle.segments.specs.Translation.{as_dbr}
use Rattle.segments.specs.declared.translate.Dbr.{Dbr}
use Rattle.state.specs.View.{as_machine, as_delivery}
use Rattle.state.specs.declared.Core as State
use Rattle.state.specs.declared.Delivery.{Delivery}
use Rattle.host.specs.Record.{pointer_of, base_of, machine_of, InRecord}
use Rattle.host.specs.declared.record.DescriptorBase.{DescriptorBase}
use Rattle.host.specs.declared.record.Pointer.{Pointer}
use Rattle.host.proofs.RecordLaws.{registers_same}
use Rattle.answers.specs.declared.Answered as Numbered
use Rattle.machine.specs.Answered.{pointers_read, AnsweredAs}
use Rattle.entry.specs.Call.{together, CoreSays, CallSays}

pub parts_fit : (a : ℕ) (d : Dbr) (p : Core.Pointer) → d.address ≤ 4294967295 → d.length ≤ 65535 → p.ring ≤ 255 → p.segment.0 ≤ 65535 → p.word.0 ≤ 65535 →
    InRecord (record { a = a; dbr = d; ipr = p })
parts_fit a d p i j k l m = record { ring_fits = k; segment_fits = l; word_fits = m; address_fits = i; length_fits = j }

-- a record's parts in the core's form
module _ (a : ℕ) (dbr : DescriptorBase) (ipr : Pointer) (v : Delivery) (prs memory : List ℕ) (d : Dbr) (p : Core.Pointer) (e : as_dbr d ≡ base_of dbr) (f : as_pointer p ≡ pointer_of ipr) where
  same_machine : as_machine (record { a = a; dbr = d; ipr = p }) prs memory ≡ machine_of (together a dbr ipr v prs) memory
  same_machine = ap (λ r. record { registers = r; memory = memory }) (registers_same a _ _ _ _ _ e f)

  module _ (single : Bool) (b : ℕ) (x : Numbered.Answered) (prs_now memory_now : List ℕ)
      (s : CoreSays (as_delivery v) single b (record { a = a; dbr = d; ipr = p }) prs memory x prs_now memory_now) where
    pub call_says : (k : ℕ) → k ≡ x.kind → (q r : Pointer) (c : DescriptorBase) → pointer_of q ≡ as_pointer x.pointer → pointer_of r ≡ as_pointer x.core.ipr →
        base_of c ≡ as_dbr x.core.dbr →
        CallSays single b (together a dbr ipr v prs) memory (record { kind = k; number = x.number; count = x.count; pointer = q; pointer_words = x.pointers }) (together x.core.a c r v prs_now) memory_now
    call_says k j q r c g h i =
        record {
          answer_same =
              ap₂ (λ n t. record { kind = n; number = x.number; count = x.count; pointer = t }) j g
              ∙ s.numbers_same
              ∙ ap (λ m. reply_numbers (run (as_delivery v) b m).reply) same_machine;
          registers_same =
              registers_same x.core.a _ _ _ _ _ i h
              ∙ ap (λ (m : Machine). m.registers) s.machine_same
              ∙ ap (λ m. (run (as_delivery v) b m).machine.registers) same_machine;
          delivery_same = refl;
          memory_same = ap (λ (m : Machine). m.memory) s.machine_same ∙ ap (λ m. (run (as_delivery v) b m).machine.memory) same_machine;
          pointers_same = s.pointers_same ∙ ap (pointers_read (as_delivery v) single b) same_machine;
        }

-- A RUN on a core, whatever trace it was lent
pub core_says : (v : Registers.Delivery) (single : Bool) (b : ℕ) (c : State.Core) (prs memory trace : List ℕ) (x : Numbered.Answered) (prs_now memory_now trace_now : List ℕ) →
    AnsweredAs v single b c prs memory trace x prs_now memory_now trace_now → CoreSays v single b c prs memory x prs_now memory_now
core_says v single b c prs memory trace x prs_now memory_now trace_now w =
    record { numbers_same = w.numbers_same; machine_same = w.machine_same; fits = w.fits; core_fits = w.core_fits; pointers_same = w.pointers_same }
