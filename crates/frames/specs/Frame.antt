-- What a frame can hold, and when and how one is written. Assumes nothing: these are definitions.
use Rattle.std.specs.Prelude.{◌≡◌, Bool, true, false, List, ℕ, ◌+◌, ◌≤◌, length, Option, Some, None}
use Rattle.model.specs.Words.{Pointer, descriptor_in}
use Rattle.model.specs.Registers.{Delivery, Machine}
use Rattle.model.specs.Questions.{all, pointer_in_range}
use Rattle.model.specs.Deliver.{delivers, saved}
use Rattle.words.specs.View.{PointerWithin}
use Rattle.words.specs.declared.descriptor.Descriptor.{Descriptor}
use Rattle.segments.specs.Translation.{as_dbr, descriptor_word}
use Rattle.state.specs.View.{as_pointers, machine_with}
use Rattle.state.specs.declared.Core.{Core}

-- registers in the range of 2, as far as a frame holds them
pub record Savable (c : Core) (prs : List ℕ) : Type 0 where
  pub ipr_within : PointerWithin c.ipr
  pub address_within : c.dbr.address ≤ 16777215
  pub length_within : c.dbr.length ≤ 4096
  pub prs_in_range : all pointer_in_range (as_pointers prs) ≡ true

-- whether a fault is delivered, whatever the PRs are, and the save segment where it is
pub record SavesIn (v : Delivery) (c : Core) (m : List ℕ) (d : ℕ) : Type 0 where
  pub delivers_here : (ps : List Pointer) → delivers v (machine_with c ps m) ≡ true
  pub same : d ≡ descriptor_word (as_dbr c.dbr) m v.save
  pub fits : (descriptor_in d).address + 13 ≤ length m

abbrev pub saves : Delivery → Core → (memory : List ℕ) → Option Descriptor → Type 0
saves v c m None = (ps : List Pointer) → delivers v (machine_with c ps m) ≡ false
saves v c m (Some d) = SavesIn v c m d.0

-- the definition's memory, where the fault is delivered, and else what it was
pub record Delivers (v : Delivery) (number : ℕ) (t : Pointer) (m : Machine) (delivered : Bool) (memory_now : List ℕ) : Type 0 where
  pub same : delivered ≡ delivers v m
  pub written : delivered ≡ true → memory_now ≡ (saved v number t m).memory
  pub kept : delivered ≡ false → memory_now ≡ m.memory
