-- Questions 1 to 4 of the host's record, and the record to a core and back. Assumes nothing.
use mathlib.Core.Path.{◌≡◌, refl, sym, ◌∙◌, ap}
use mathlib.Core.Bool.{Bool, true, false, not, ◌&&◌}
use mathlib.Core.List.{List}
use Prim.Native.Nat.{ℕ, ◌+◌, ◌≤◌, ◌<◌}
use lib.Dec.{leb}
use lib.ListN.{length}
use borrow.Author.Tests.{not-true, not-false, le-leb, lt-leb}
use Rattle.model.specs.Words.{Pointer}
use Rattle.model.specs.Registers.{Dbr, Registers, Delivery, no_delivery, Machine, zero_pointer}
use Rattle.model.specs.Questions.{ask, all, memory_fits, pointer_in_range, delivery_in_range, registers_in_range, rings_at_least, dbr_fits, start_questions}
use Rattle.model.specs.Check.{check_questions}
use Rattle.model.proofs.DeliveredLaws.{same_start}
use Rattle.state.specs.View.{as_machine}
use Rattle.state.specs.declared.Core.{Core}
use Rattle.host.specs.Record.{machine_of, delivery_of, Converted}
use Rattle.host.specs.declared.record.Registers as Record

-- 1 TO 4, the switch and its segments left out; of memory they ask its size alone
module _ (a : ℕ) (d : Dbr) (ipr : Pointer) (ps : List Pointer) (v : List ℕ) (size : ℕ) (sized : length v ≡ size) where
  abbrev machine : Machine
  machine = record { registers = record { a = a; dbr = d; ipr = ipr; prs = ps }; memory = v }

  pub answer_1 : 16777216 < size → 1 ≡ start_questions no_delivery machine
  unfolding start_questions memory_fits ask
  answer_1 h = sym (rw (sized, lt-leb _ _ h))

  module _ (one : size ≤ 16777216) (r : Bool) (q : r ≡ pointer_in_range ipr) where
    pub answer_2_ipr : not r ≡ true → 2 ≡ start_questions no_delivery machine
    unfolding start_questions memory_fits registers_in_range delivery_in_range ask
    answer_2_ipr h = sym (rw (sized, le-leb _ _ one, ← q, not-true r h))

    module _ (two : not r ≡ false) (s : Bool) (w : s ≡ all pointer_in_range ps) where
      pub answer_2_prs : not s ≡ true → 2 ≡ start_questions no_delivery machine
      unfolding start_questions memory_fits registers_in_range delivery_in_range ask
      answer_2_prs h = sym (rw (sized, le-leb _ _ one, ← q, not-false r two, ← w, not-true s h))

      module _ (three : not s ≡ false) where
        pub answer_2_dbr : 16777215 < d.address → 2 ≡ start_questions no_delivery machine
        unfolding start_questions memory_fits registers_in_range delivery_in_range ask
        answer_2_dbr h = sym (rw (sized, le-leb _ _ one, ← q, not-false r two, ← w, not-false s three, lt-leb _ _ h))

        module _ (four : d.address ≤ 16777215) (t : Bool) (x : t ≡ rings_at_least ipr.ring ps) where
          pub answer_3 : not t ≡ true → 3 ≡ start_questions no_delivery machine
          unfolding start_questions memory_fits registers_in_range delivery_in_range ask
          answer_3 h = sym (rw (sized, le-leb _ _ one, ← q, not-false r two, ← w, not-false s three, le-leb _ _ four, ← x, not-true t h))

          module _ (five : not t ≡ false) where
            pub answer_4_too_long : 4096 < d.length → 4 ≡ start_questions no_delivery machine
            unfolding start_questions memory_fits registers_in_range delivery_in_range dbr_fits ask
            answer_4_too_long h = sym (rw (sized, le-leb _ _ one, ← q, not-false r two, ← w, not-false s three, le-leb _ _ four, ← x, not-false t five, lt-leb _ _ h))

            pub answer_4_past_end : d.length ≤ 4096 → size < d.address + d.length → 4 ≡ start_questions no_delivery machine
            unfolding start_questions memory_fits registers_in_range delivery_in_range dbr_fits ask
            answer_4_past_end g h = sym (rw (sized, le-leb _ _ one, ← q, not-false r two, ← w, not-false s three, le-leb _ _ four, ← x, not-false t five, le-leb _ _ g, lt-leb _ _ h))

            pub answer_yes : d.length ≤ 4096 → d.address + d.length ≤ size → 0 ≡ start_questions no_delivery machine
            unfolding start_questions memory_fits registers_in_range delivery_in_range dbr_fits ask
            answer_yes g h = sym (rw (sized, le-leb _ _ one, ← q, not-false r two, ← w, not-false s three, le-leb _ _ four, ← x, not-false t five, le-leb _ _ g, le-leb _ _ h))

pub ruleset start_answers = (answer_1, answer_2_ipr, answer_2_prs, answer_2_dbr, answer_3, answer_4_too_long, answer_4_past_end, answer_yes)

-- and where these have a no
pub delivery_answer : (v : Delivery) (m : Machine) → delivery_in_range v ≡ false → start_questions v m ≡ ask (memory_fits (length m.memory)) 1 2
unfolding start_questions registers_in_range ask
delivery_answer v m e =
    ap (λ b. ask (memory_fits (length m.memory)) 1 (ask b 2 (ask (rings_at_least m.registers.ipr.ring m.registers.prs) 3 (ask (dbr_fits (length m.memory) m.registers.dbr) 4 0))))
    (never (pointer_in_range m.registers.ipr) (all pointer_in_range m.registers.prs) (leb m.registers.dbr.address 16777215) e)
  where
    never : (a b c : Bool) {d : Bool} → d ≡ false → a && (b && (c && d)) ≡ false
    never true true true e = e
    never true true false e = refl
    never true false c e = refl
    never false b c e = refl

pub refused_1 : (n : ℕ) → 16777216 < n → 1 ≡ ask (memory_fits n) 1 2
unfolding memory_fits ask
refused_1 n h = sym (rw (lt-leb _ _ h))

pub refused_2 : (n : ℕ) → n ≤ 16777216 → 2 ≡ ask (memory_fits n) 1 2
unfolding memory_fits ask
refused_2 n h = sym (rw (le-leb _ _ h))

-- THE CHECK'S: 1, 2 of the pointer and of the switch and its segments, then all that is asked without these
module _ (v : Delivery) (p : Pointer) (m : Machine) (size : ℕ) (sized : length m.memory ≡ size) where
  pub check_1 : 16777216 < size → 1 ≡ check_questions v m p
  unfolding check_questions memory_fits ask
  check_1 h = sym (rw (sized, lt-leb _ _ h))

  module _ (one : size ≤ 16777216) (r : Bool) (q : r ≡ pointer_in_range p) where
    pub check_2_pointer : not r ≡ true → 2 ≡ check_questions v m p
    unfolding check_questions memory_fits ask
    check_2_pointer h = sym (rw (sized, le-leb _ _ one, ← q, not-true r h))

    module _ (two : not r ≡ false) (k : Bool) (z : k ≡ delivery_in_range v) where
      asked_on : check_questions v m p ≡ start_questions v m
      unfolding check_questions memory_fits ask
      asked_on = rw (sized, le-leb _ _ one, ← q, not-false r two)

      pub check_2_delivery : not k ≡ true → 2 ≡ check_questions v m p
      unfolding memory_fits ask
      check_2_delivery h = sym (asked_on ∙ delivery_answer v m (sym z ∙ not-true k h) ∙ rw (sized, le-leb _ _ one) refl)

      pub check_rest : not k ≡ false → (n : ℕ) → n ≡ start_questions no_delivery m → n ≡ check_questions v m p
      check_rest h n e = e ∙ sym (same_start v no_delivery (sym z ∙ not-false k h) (unfold delivery_in_range in refl) m) ∙ sym asked_on

pub ruleset size_answers = (start_answers, check_1, check_2_pointer, check_2_delivery, check_rest)

-- OF A RECORD, with a pointer that is in range: 1 is asked twice, which changes nothing
asked_twice : (b : Bool) (n x : ℕ) → ask b n (ask b n x) ≡ ask b n x
unfolding ask
asked_twice true n x = refl
asked_twice false n x = refl

pointer_adds_nothing : (v : Delivery) (m : Machine) → check_questions v m zero_pointer ≡ start_questions v m
unfolding check_questions start_questions pointer_in_range ask
pointer_adds_nothing v m = asked_twice (memory_fits (length m.memory)) 1 _

pub asked_of_record : (r : Record.Registers) (c : Core) (w : Converted r c) (memory : List ℕ) (n : ℕ) →
    n ≡ check_questions (delivery_of r) (as_machine c r.prs memory) zero_pointer → n ≡ start_questions (delivery_of r) (machine_of r memory)
asked_of_record r c w memory n e =
    e ∙ pointer_adds_nothing (delivery_of r) (as_machine c r.prs memory)
    ∙ ap (λ g. start_questions (delivery_of r) (record { registers = g; memory = memory })) w.same

-- REGISTERS, from equal parts
pub registers_same : (a : ℕ) (b d : Dbr) (p q : Pointer) (ps : List Pointer) → b ≡ d → p ≡ q →
    ◌≡◌ {A = Registers} (record { a = a; dbr = b; ipr = p; prs = ps }) (record { a = a; dbr = d; ipr = q; prs = ps })
registers_same a b d p q ps e f = ap (λ z. record { a = a; dbr = z; ipr = p; prs = ps }) e ∙ ap (λ t. record { a = a; dbr = d; ipr = t; prs = ps }) f
