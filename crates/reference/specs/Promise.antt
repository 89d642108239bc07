-- Document 03's promises of runs: as it stands there. Assumes nothing: these are definitions.
use Rattle.std.specs.Prelude.{◌≡◌, Bool, true, false, ◌&&◌, ◌||◌, cond, List, [], ◌∷◌, ℕ, zero, suc, ◌+◌, ◌^◌, ◌≤◌, ◌<◌, ltb, leb, eqb, length, get_or}
use Rattle.reference.specs.Machine.{Descriptor, Regs, descriptor_of, segment_refusal, start_refusal}
use Rattle.reference.specs.Step.{Machine}
use Rattle.reference.specs.Run.{run}

-- descriptor words, and words that a segment covers
unfoldable pub is_descriptor_word : Regs → (x : ℕ) → Bool
is_descriptor_word r x = leb r.base x && ltb x (r.base + r.bound)

unfoldable pub covered_by : Descriptor → (x : ℕ) → Bool
covered_by d x = leb d.start x && ltb x (d.start + d.long)

-- readable or executable, and writable, from some ring at or above n, by descriptors 0 to s - 1
unfoldable pub reachable_from : (left : ℕ) → (n : ℕ) → Regs → (mem : List ℕ) → (x : ℕ) → Bool
reachable_from zero n r m x = false
reachable_from (suc s) n r m x =
    let d = descriptor_of r m s in
    (eqb (segment_refusal r m s) 0 && (covered_by d x && ((d.reads || d.executes) && leb n d.r2))) || reachable_from s n r m x

unfoldable pub reachable : (n : ℕ) → Regs → (mem : List ℕ) → (x : ℕ) → Bool
reachable n r m x = reachable_from r.bound n r m x

unfoldable pub writable_from : (left : ℕ) → (n : ℕ) → Regs → (mem : List ℕ) → (x : ℕ) → Bool
writable_from zero n r m x = false
writable_from (suc s) n r m x =
    let d = descriptor_of r m s in
    (eqb (segment_refusal r m s) 0 && (covered_by d x && (d.writes && leb n d.r1))) || writable_from s n r m x

unfoldable pub writable : (n : ℕ) → Regs → (mem : List ℕ) → (x : ℕ) → Bool
writable n r m x = writable_from r.bound n r m x

-- agreement on descriptor words and all that is reachable
unfoldable pub agree_at : (n : ℕ) → Regs → (start m k : List ℕ) → (x : ℕ) → Type 0
agree_at n r s m k x = (is_descriptor_word r x || reachable n r s x) ≡ true → get_or m x 0 ≡ get_or k x 0

unfoldable pub Agree : (n : ℕ) → Regs → (start m k : List ℕ) → Type 0
Agree n r s m k = (x : ℕ) → x < length s → agree_at n r s m k x

unfoldable pub Closed : (n : ℕ) → Regs → (mem : List ℕ) → Type 0
Closed n r m = (x : ℕ) → x < length m → is_descriptor_word r x ≡ true → writable n r m x ≡ false

-- the stretch: steps up to and with the first that ends below ring n
unfoldable pub stretch_from : (left k : ℕ) → (n budget : ℕ) → Machine → ℕ
stretch_from zero k n b m = b
stretch_from (suc l) k n b m =
    cond (ltb (run k m).machine.regs.ipr.ring n && eqb (run k m).reply.count k) k (stretch_from l (suc k) n b m)

-- its budget: the number of steps to that one, or the whole run's budget
unfoldable pub stretch : (n budget : ℕ) → Machine → ℕ
stretch n b m = stretch_from (run b m).reply.count 1 n b m

-- THE THIRD DEMAND
pub record Alike (n b : ℕ) (r : Regs) (m k : List ℕ) : Type 0 where
  pub same_long : stretch n b (record { regs = r; mem = m }) ≡ stretch n b (record { regs = r; mem = k })
  pub same_reply :
      (run (stretch n b (record { regs = r; mem = m })) (record { regs = r; mem = m })).reply
      ≡ (run (stretch n b (record { regs = r; mem = k })) (record { regs = r; mem = k })).reply
  -- after each step, and at the end
  pub same_regs :
      (j : ℕ) → j ≤ stretch n b (record { regs = r; mem = m }) →
      (run j (record { regs = r; mem = m })).machine.regs ≡ (run j (record { regs = r; mem = k })).machine.regs
  pub same_words :
      (j : ℕ) → j ≤ stretch n b (record { regs = r; mem = m }) →
      Agree n r m (run j (record { regs = r; mem = m })).machine.mem (run j (record { regs = r; mem = k })).machine.mem
  pub unchanged :
      (j x : ℕ) → j ≤ stretch n b (record { regs = r; mem = m }) → x < length m → writable n r m x ≡ false →
      (get_or (run j (record { regs = r; mem = m })).machine.mem x 0 ≡ get_or m x 0)
      × (get_or (run j (record { regs = r; mem = k })).machine.mem x 0 ≡ get_or k x 0)

unfoldable pub all_words : List ℕ → Bool
all_words [] = true
all_words (x ∷ xs) = ltb x (2 ^ 64) && all_words xs

unfoldable pub RingsHold : Type 0
RingsHold =
    (n b : ℕ) (r : Regs) (m k : List ℕ) → 1 ≤ n → n ≤ 7 → b < 2 ^ 32 → r.a < 2 ^ 64 → length r.prs ≡ 8 → n ≤ r.ipr.ring →
    all_words m ≡ true → all_words k ≡ true → length m ≡ length k → Agree n r m m k → Closed n r m → Alike n b r m k

-- THE FIRST DEMAND: a run's count; a refused run and a faulting step leave all as before; spent only when the count equals the budget
unfoldable pub RunCounts : Type 0
RunCounts =
    (b : ℕ) (m : Machine) →
    ((run b m).reply.count ≤ b) × ((run b m).reply.kind ≡ 1 → (run b m).reply.count ≡ b) × ((run b m).reply.kind ≡ 0 → (run b m).machine ≡ m)
    × ((run b m).reply.kind ≡ 3 → (run (run b m).reply.count m).machine ≡ (run b m).machine)
    × ((run b m).machine.mem ≡ [] → m.mem ≡ []) × (length (run b m).machine.mem ≡ length m.mem)

-- a refusal before a run has just 1 to 4
unfoldable pub RefusedEarly : Type 0
RefusedEarly =
    (b : ℕ) (m : Machine) →
    ((run b m).reply.kind ≡ 0 → ((run b m).reply.number ≡ start_refusal m.regs m.mem) × ((run b m).reply.count ≡ 0))
    × (start_refusal m.regs m.mem ≡ 0 → (run b m).reply.kind ≡ 0 → ⊥)
