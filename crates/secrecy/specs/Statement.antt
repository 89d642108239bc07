-- Demand 3, clause by clause, about two whole stretches. Assumes nothing: these are definitions.
use Rattle.std.specs.Prelude.{◌≡◌, true, false, ◌||◌, List, ℕ, ◌≤◌, ◌<◌, length, get_or}
use Rattle.model.specs.Registers.{Registers, Delivery, Machine, machine}
use Rattle.model.specs.Reach.{is_descriptor_word, observable, writable}
use Rattle.model.specs.Run.{run, after, single_count, trace, stretch}
use Rattle.model.specs.Listing.{listing}

-- the two memories have the same descriptor words and the same words that some ring at or above n can read or execute;
-- which words these are is judged by DBR and the descriptor words at the start
unfoldable pub Agree : (ring : ℕ) → (start : Machine) → (memory other : List ℕ) → Type 0
Agree n start m k = (x : ℕ) → (is_descriptor_word start x || observable n start x) ≡ true → get_or m x 0 ≡ get_or k x 0

-- no ring at or above n can write a descriptor word
unfoldable pub DescriptorsUnwritable : (ring : ℕ) → (start : Machine) → Type 0
DescriptorsUnwritable n start = (x : ℕ) → is_descriptor_word start x ≡ true → writable n start x ≡ false

-- what is promised of the two runs with budget b from registers r, one from memory m and one from memory k;
-- a stretch is itself a run, with the budget that `stretch` gives, and ends before a fault is delivered: what the delivery writes,
-- and what ring 0 then does, is not spoken of (02, L4)
pub record Alike (v : Delivery) (n b : ℕ) (r : Registers) (m k : List ℕ) : Type 0 where
  -- both stretches are equally long
  pub same_stretch : stretch v n b (machine r m) ≡ stretch v n b (machine r k)
  -- and answer alike, the count of completed steps included
  pub same_reply : (run v (stretch v n b (machine r m)) (machine r m)).reply ≡ (run v (stretch v n b (machine r k)) (machine r k)).reply
  -- step by step they read as many pointer words, a faulting step too (02, L2)
  pub same_count : (j : ℕ) → j < stretch v n b (machine r m) → single_count v (after v j (machine r m)) ≡ single_count v (after v j (machine r k))
  -- and have one trace: IPR and that count of each completed step
  pub same_trace : trace v (stretch v n b (machine r m)) (machine r m) ≡ trace v (stretch v n b (machine r k)) (machine r k)
  -- after each of their steps, and at the end: the same registers
  pub same_registers : (j : ℕ) → j ≤ stretch v n b (machine r m) → (after v j (machine r m)).registers ≡ (after v j (machine r k)).registers
  -- agreement on the same words again
  pub same_words : (j : ℕ) → j ≤ stretch v n b (machine r m) →
      Agree n (machine r m) (after v j (machine r m)).memory (after v j (machine r k)).memory
  -- and in neither run has a word that no such ring can write changed since the start
  pub unchanged : (j x : ℕ) → j ≤ stretch v n b (machine r m) → writable n (machine r m) x ≡ false →
      (get_or (after v j (machine r m)).memory x 0 ≡ get_or m x 0) × (get_or (after v j (machine r k)).memory x 0 ≡ get_or k x 0)

-- THE THIRD DEMAND: for every n from 1, every budget, every delivery, equal registers in ring n or above, and two memories of one
-- length; that n is at most 7 is not needed. Nothing is asked of the save segment: its descriptor is a descriptor word
abbrev pub RingsHold : Type 0
RingsHold =
    (v : Delivery) (n b : ℕ) (r : Registers) (m k : List ℕ) → 1 ≤ n → n ≤ r.ipr.ring → length m ≡ length k → Agree n (machine r m) m k →
    DescriptorsUnwritable n (machine r m) → Alike v n b r m k

-- so both print one text, all that a laboratory has on paper
abbrev pub ListingsAlike : Type 0
ListingsAlike =
    (v : Delivery) (n b : ℕ) (r : Registers) (m k : List ℕ) → Alike v n b r m k →
    listing v (stretch v n b (machine r m)) (machine r m) ≡ listing v (stretch v n b (machine r k)) (machine r k)

-- it makes no odds that m judges and not k: both judge alike
abbrev pub JudgedAlike : Type 0
JudgedAlike =
    (n : ℕ) (r : Registers) (m k : List ℕ) → length m ≡ length k → Agree n (machine r m) m k → (x : ℕ) →
    (is_descriptor_word (machine r m) x ≡ is_descriptor_word (machine r k) x)
    × (observable n (machine r m) x ≡ observable n (machine r k) x)
    × (writable n (machine r m) x ≡ writable n (machine r k) x)
