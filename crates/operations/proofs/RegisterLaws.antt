-- LDI, EAP, and the word that SPP stores. Assumes nothing.
use Rattle.std.proofs.Common.{◌≡◌, ℕ, true, List, [], set, refl, ap, ◌∙◌}
use Rattle.model.specs.Words.{Pointer}
use Rattle.model.specs.Registers.{Registers, zero_pointer, with_a, with_ipr, with_prs, with_pr, moved_by, advanced}
use Rattle.model.specs.Questions.{all, pointer_in_range}
use Rattle.model.proofs.ListLaws.{all_get}
use Rattle.words.specs.View.{as_pointer, PointerWithin}
use Rattle.words.specs.declared.pointer.Pointer as Code
use Rattle.words.specs.declared.descriptor.Descriptor.{Descriptor}
use Rattle.state.specs.View.{registers_with, Becomes, Completes, Finishes, FinishesWithAnyPrs, as_pointers, pr_of}
use Rattle.state.specs.declared.Core.{Core}
use Rattle.state.specs.declared.After.{After}
use Rattle.state.proofs.PassingLaws.{pointer_passing}

pub literal_finishes : (c z : Core) (d : Descriptor) (x : After) (v u : ℕ) → Becomes c (with_a v) z → v ≡ u → Completes z d x → FinishesWithAnyPrs c d (with_a u) x
unfolding with_a advanced with_ipr moved_by
literal_finishes c z d x v u e f h =
    record {
      finishes =
          λ ps.
          record {
            completed = h.completed;
            code_same = h.code_same;
            ring_same = ap (λ (r : Registers). r.ipr.ring) (h.core_same.registers_same []) ∙ ap (λ (r : Registers). r.ipr.ring) (e.registers_same []);
            registers_same = h.core_same.registers_same ps ∙ ap advanced (e.registers_same ps ∙ ap (λ k. with_a k (registers_with c ps)) f);
          };
    }

pub pointer_finishes : (c : Core) (d : Descriptor) (x : After) (ps qs : List Pointer) (j k : ℕ) (t : Pointer) → Completes c d x → qs ≡ set ps j t → j ≡ k →
    Finishes c d ps (with_pr k t) x qs
unfolding with_pr with_prs advanced with_ipr moved_by
pointer_finishes c d x ps qs j k t h f g =
    record {
      completed = h.completed;
      code_same = h.code_same;
      ring_same = ap (λ (r : Registers). r.ipr.ring) (h.core_same.registers_same []);
      registers_same = h.core_same.registers_same qs ∙ ap (λ z. advanced (registers_with c z)) (f ∙ ap (λ i. set ps i t) g);
    }

-- a PR is in range
pub pr_within : (prs : List ℕ) (k : ℕ) (p : Code.Pointer) → as_pointer p ≡ pr_of prs k → all pointer_in_range (as_pointers prs) ≡ true → PointerWithin p
unfolding pr_of pointer_in_range
pr_within prs k p e h = pointer_passing p (ap pointer_in_range e ∙ all_get pointer_in_range (as_pointers prs) k zero_pointer h refl)
