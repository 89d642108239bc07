-- Statements on the table of L8: by fields, beside the definition by words. Assumes nothing: these are definitions.
use Rattle.std.specs.Prelude.{◌≡◌, not, List, [], ◌∷◌, ℕ, ◌+◌, ◌^◌, ◌≤◌, ◌<◌, eqb, length, get_or}
use Rattle.model.specs.Words.{Descriptor, descriptor_in}
use Rattle.model.specs.Registers.{Dbr, Delivery, Machine, machine}
use Rattle.model.specs.Image.{loaded, image}
use Rattle.model.specs.Written.{Writable}
use Rattle.model.specs.Brackets.{Row, rows_of, table_questions, set_brackets, image_bracketed}

-- REFUSED: nothing is written
abbrev pub RefusedTableWritesNothing : Type 0
RefusedTableWritesNothing =
    (m : List ℕ) (b : Dbr) (rows : List Row) → (table_questions (length m) b rows ≡ 0 → ⊥) → (set_brackets m b rows).memory ≡ m

-- ACCEPTED: the six fields of a descriptor are its row's, the other four its own
pub record FieldsOfRow (r : Row) (before after : Descriptor) : Type 0 where
  pub r1_set : after.r1 ≡ r.r1
  pub r2_set : after.r2 ≡ r.r2
  pub r3_set : after.r3 ≡ r.r3
  pub read_set : after.read ≡ not (eqb r.read 0)
  pub write_set : after.write ≡ not (eqb r.write 0)
  pub execute_set : after.execute ≡ not (eqb r.execute 0)
  pub address_kept : after.address ≡ before.address
  pub length_kept : after.length ≡ before.length
  pub valid_kept : after.valid ≡ before.valid
  pub gate_kept : after.gate ≡ before.gate

abbrev pub descriptor_word : (memory : List ℕ) → Dbr → (segment : ℕ) → ℕ
descriptor_word m b s = get_or m (b.address + s) 0

-- the one row of a segment, and its descriptor by it
pub record SetByRow (m : List ℕ) (b : Dbr) (rows : List Row) (s : ℕ) : Type 0 where
  pub row : Row
  pub only : rows_of s rows ≡ row ∷ []
  pub fields : FieldsOfRow row (descriptor_in (descriptor_word m b s)) (descriptor_in (descriptor_word (set_brackets m b rows).memory b s))

abbrev pub TableSetsFields : Type 0
TableSetsFields =
    (m : List ℕ) (b : Dbr) (rows : List Row) → table_questions (length m) b rows ≡ 0 → (s : ℕ) → s < b.length → SetByRow m b rows s

-- EVERY OTHER WORD stays, and memory's size
abbrev pub TableKeepsOthers : Type 0
TableKeepsOthers =
    (m : List ℕ) (b : Dbr) (rows : List Row) (x : ℕ) → (b.address ≤ x → x < b.address + b.length → ⊥) →
    get_or (set_brackets m b rows).memory x 0 ≡ get_or m x 0

abbrev pub TableKeepsSize : Type 0
TableKeepsSize = (m : List ℕ) (b : Dbr) (rows : List Row) → length (set_brackets m b rows).memory ≡ length m

-- THE ORDER OF ROWS doesn't matter
pub data Permuted {A : Type 0} : (xs ys : List A) → Type 0 where
  same : {xs : List A} → Permuted xs xs
  behind : {xs ys : List A} (x : A) → Permuted xs ys → Permuted (x ∷ xs) (x ∷ ys)
  exchanged : {xs : List A} (x y : A) → Permuted (x ∷ y ∷ xs) (y ∷ x ∷ xs)
  and_then : {xs ys zs : List A} → Permuted xs ys → Permuted ys zs → Permuted xs zs

abbrev pub OrderOfRowsFree : Type 0
OrderOfRowsFree = (m : List ℕ) (b : Dbr) (rows others : List Row) → Permuted rows others → set_brackets m b rows ≡ set_brackets m b others

-- THE IMAGE that the program writes is accepted, and holds the memory with its descriptors so set
abbrev pub BracketedLoads : Type 0
BracketedLoads =
    (v : Delivery) (m : Machine) (b : ℕ) (rows : List Row) → Writable v m b → table_questions (length m.memory) m.registers.dbr rows ≡ 0 →
    image (image_bracketed rows (loaded v m b))
    ≡ loaded v (machine m.registers (set_brackets m.memory m.registers.dbr rows).memory) b
