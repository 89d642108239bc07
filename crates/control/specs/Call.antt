-- What the opcodes that move control answer. Assumes nothing: these are definitions.
use Rattle.std.specs.Prelude.{◌≡◌, List, ℕ, ◌≤◌, Result, Ok, Err}
use Rattle.model.specs.Words as Words
use Rattle.model.specs.Words.{descriptor_in}
use Rattle.model.specs.Registers as Registers
use Rattle.model.specs.Questions.{new_ring, call_questions}
use Rattle.words.specs.View.{as_pointer}
use Rattle.words.specs.declared.descriptor.Descriptor.{Descriptor}
use Rattle.words.specs.declared.pointer.Pointer.{Pointer}
use Rattle.questions.specs.declared.fault.Fault.{Fault}
use Rattle.segments.specs.Translation.{looked}
use Rattle.state.specs.View.{Becomes}
use Rattle.state.specs.declared.Core.{Core}
use Rattle.state.specs.declared.After.{After}
use Rattle.state.specs.declared.End.TheVariants.{Completed}
use Rattle.control.specs.declared.Entry.{Entry}

-- control goes on at a pointer, in the segment of that descriptor
pub record Enters (c : Core) (p : Pointer) (d : Descriptor) (x : After) : Type 0 where
  pub completed : x.end ≡ Completed
  pub code_same : x.code ≡ d
  pub core_same : Becomes c (Registers.with_ipr (as_pointer p)) x.core

-- CALL's check of a pointer, by DBR and memory: the first no, or the descriptor and the new ring
abbrev pub CheckedBy : Registers.Dbr → (memory : List ℕ) → (ipr t : Words.Pointer) → Result Entry Fault → Type 0
CheckedBy b m ipr t (Err e) = looked b m t (call_questions ipr t) (Err e)
CheckedBy b m ipr t (Ok n) = looked b m t (call_questions ipr t) (Ok n.descriptor) × (n.ring ≡ new_ring t (descriptor_in n.descriptor.0)) × (n.ring ≤ 7)
