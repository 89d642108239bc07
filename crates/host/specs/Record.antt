-- The host's register record as the model's registers. Assumes nothing: these are definitions.
use Rattle.std.specs.Prelude.{◌≡◌, List, ℕ, ◌≤◌, length, Result}
use Rattle.model.specs.Words as Words
use Rattle.model.specs.Registers as Registers
use Rattle.host.specs.declared.record.DescriptorBase.{DescriptorBase}
use Rattle.host.specs.declared.record.Pointer.{Pointer}
use Rattle.host.specs.declared.record.Registers as Record
use Rattle.questions.specs.Numbers.{number_by, start_number}
use Rattle.questions.specs.declared.start.StartError.{StartError}
use Rattle.state.specs.declared.Core.{Core}
use Rattle.state.specs.View.{as_pointers, as_delivery, registers_with}

abbrev pub pointer_of : Pointer → Words.Pointer
pointer_of p = record { ring = p.ring; segment = p.segment; word = p.word }

abbrev pub base_of : DescriptorBase → Registers.Dbr
base_of d = record { address = d.address; length = d.length }

abbrev pub registers_of : Record.Registers → Registers.Registers
registers_of r =
    record { a = r.a; dbr = base_of r.dbr; ipr = pointer_of r.ipr; prs = as_pointers r.prs }

abbrev pub machine_of : Record.Registers → (memory : List ℕ) → Registers.Machine
machine_of r m = record { registers = registers_of r; memory = m }

abbrev pub delivery_of : Record.Registers → Registers.Delivery
delivery_of r = as_delivery r.delivery

-- a core whose numbers fit the record's fields
pub record InRecord (c : Core) : Type 0 where
  pub ring_fits : c.ipr.ring ≤ 255
  pub segment_fits : c.ipr.segment.0 ≤ 65535
  pub word_fits : c.ipr.word.0 ≤ 65535
  pub address_fits : c.dbr.address ≤ 4294967295
  pub length_fits : c.dbr.length ≤ 65535

-- the core of a record, whatever its PRs
pub record Converted (r : Record.Registers) (c : Core) : Type 0 where
  pub same : registers_with c (as_pointers r.prs) ≡ registers_of r
  pub fits : InRecord c

-- questions that look at memory's size alone: their answer, for any memory of that size
abbrev pub AnswersAny : {A : Type 0} → Result A StartError → (size : ℕ) → (asked : (memory : List ℕ) → ℕ) → Type 0
AnswersAny r s f = (m : List ℕ) → length m ≡ s → number_by start_number r ≡ f m
