-- Registers moved on. Assumes nothing.
use Rattle.std.proofs.Common.{◌≡◌, ap, ◌∙◌}
use Rattle.model.specs.Words.{Pointer}
use Rattle.model.specs.Registers.{with_ipr, moved_by, advanced}
use Rattle.words.specs.View.{as_pointer}
use Rattle.state.specs.declared.Core.{Core}
use Rattle.state.specs.View.{registers_with, Becomes}

-- IPR moved on by one
pub advanced_law : (c x : Core) (p : Pointer) → Becomes c (with_ipr p) x → p ≡ moved_by 1 (as_pointer c.ipr) → Becomes c advanced x
unfolding advanced
advanced_law c x p e f = record { registers_same = λ ps. e.registers_same ps ∙ ap (λ t. with_ipr t (registers_with c ps)) f }
