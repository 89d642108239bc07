-- A run over a register record lent as words: A, DBR ADDRESS and LENGTH, RING, SEGNO and WORDNO of IPR and of PR0 to PR7, then the
-- switch, the save segment and the handler segment. Assumes nothing: these are definitions.
use Rattle.std.specs.Prelude.{List, [], ◌∷◌, ◌++◌, ℕ, zero, suc, ◌+◌, eqb, length, get_or}
use Rattle.model.specs.Words.{Pointer}
use Rattle.model.specs.Registers.{Registers, Delivery, machine}
use Rattle.model.specs.Questions.{ask, yes_to_all, memory_fits}
use Rattle.model.specs.Run.{Reply, refused, Ran, unless_refused, run}

abbrev pub record_length : ℕ
record_length = 33

unfoldable pub pointer_from : (at : ℕ) → List ℕ → Pointer
pointer_from i ws = record { ring = get_or ws i 0; segment = get_or ws (i + 1) 0; word = get_or ws (i + 2) 0 }

unfoldable pub pointers_from : (count at : ℕ) → List ℕ → List Pointer
pointers_from zero i ws = []
pointers_from (suc n) i ws = pointer_from i ws ∷ pointers_from n (i + 3) ws

unfoldable pub registers_from : List ℕ → Registers
registers_from ws =
    record { a = get_or ws 0 0; dbr = record { address = get_or ws 1 0; length = get_or ws 2 0 }; ipr = pointer_from 3 ws; prs = pointers_from 8 6 ws }

unfoldable pub delivery_from : List ℕ → Delivery
delivery_from ws = record { switch = get_or ws 30 0; save = get_or ws 31 0; handler = get_or ws 32 0 }

unfoldable pub pointer_words : Pointer → List ℕ
pointer_words p = p.ring ∷ p.segment ∷ p.word ∷ []

unfoldable pub pointers_words : List Pointer → List ℕ
pointers_words [] = []
pointers_words (p ∷ ps) = pointer_words p ++ pointers_words ps

unfoldable pub delivery_words : Delivery → List ℕ
delivery_words v = v.switch ∷ v.save ∷ v.handler ∷ []

unfoldable pub registers_words : Registers → Delivery → List ℕ
registers_words r v =
    (r.a ∷ r.dbr.address ∷ r.dbr.length ∷ []) ++ pointer_words r.ipr ++ pointers_words r.prs ++ delivery_words v

-- what a call leaves: its reply, the record and every word of memory
pub record LentRan : Type 0 where
  pub reply : Reply
  pub record_words : List ℕ
  pub memory : List ℕ

unfoldable pub lent_ran : Delivery → Ran → LentRan
lent_ran v x = record { reply = x.reply; record_words = registers_words x.machine.registers v; memory = x.machine.memory }

-- 1, and then 2 of a record that has another length; a record of the right length is asked 1 to 4 by the run
unfoldable pub lent_questions : (record_words memory : List ℕ) → ℕ
lent_questions ws m = ask (memory_fits (length m)) 1 (ask (eqb (length ws) record_length) 2 yes_to_all)

unfoldable pub lent_run : (budget : ℕ) → (record_words memory : List ℕ) → LentRan
lent_run b ws m =
    unless_refused (lent_questions ws m) (λ n. record { reply = refused n; record_words = ws; memory = m })
    (lent_ran (delivery_from ws) (run (delivery_from ws) b (machine (registers_from ws) m)))
