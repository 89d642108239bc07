-- 02, L4: a fault delivered to a program in ring 0. Assumes nothing: these are definitions.
use Rattle.std.specs.Prelude.{Bool, false, ◌&&◌, cond, List, [], ◌∷◌, map, ℕ, zero, suc, leb, eqb, set}
use Rattle.model.specs.Words.{Pointer, pointer_word}
use Rattle.model.specs.Registers.{Registers, Delivery, Machine, machine, dbr_word, with_ipr}
use Rattle.model.specs.Program.{Outcome, faults, completes, halts, descriptor_of}
use Rattle.model.specs.Reach.{segment_passes}
use Rattle.model.specs.Step.{step}

-- THE FRAME, thirteen words: number, address under question, A, DBR, IPR and PR0 to PR7 as they stood before the step
unfoldable pub frame : (number : ℕ) → Pointer → Registers → List ℕ
frame n t r = n ∷ pointer_word t ∷ r.a ∷ dbr_word r.dbr ∷ pointer_word r.ipr ∷ map pointer_word r.prs

-- the words of memory from an address on become these
unfoldable pub with_words : (address : ℕ) → (words memory : List ℕ) → List ℕ
with_words a [] m = m
with_words a (w ∷ ws) m = with_words (suc a) ws (set m a w)

-- the save segment passes 11 to 14, is not shorter than the frame, and has W on; no ring is asked
unfoldable pub can_save : Delivery → Machine → Bool
can_save v m = let d = descriptor_of m v.save in segment_passes m v.save && (leb 13 d.length && d.write)

-- with the switch on
unfoldable pub delivers : Delivery → Machine → Bool
delivers v m = eqb v.switch 1 && can_save v m

-- the frame from word 0 of the save segment on; IPR becomes ring 0, handler segment, word 0
unfoldable pub saved : Delivery → (number : ℕ) → Pointer → Machine → Machine
saved v n t m =
    machine (with_ipr (record { ring = 0; segment = v.handler; word = 0 }) m.registers)
    (with_words (descriptor_of m v.save).address (frame n t m.registers) m.memory)

-- THE STEP'S FAULT is delivered, which completes the step, or else stays what it is
unfoldable pub deliver : Delivery → Machine → Outcome → Outcome
deliver v m (faults n t) = cond (delivers v m) (completes (saved v n t m)) (faults n t)
deliver v m (completes k) = completes k
deliver v m (halts k) = halts k

unfoldable pub step_with : Delivery → Machine → Outcome
step_with v m = deliver v m (step m)

-- does the step deliver a fault?
unfoldable pub is_delivered : Delivery → Machine → Outcome → Bool
is_delivered v m (faults n t) = delivers v m
is_delivered v m (completes k) = false
is_delivered v m (halts k) = false
