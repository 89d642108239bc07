-- What the records so far gave, as the model's. Assumes nothing: these are definitions.
use Rattle.std.specs.Prelude.{◌≡◌, Bool, cond, List, ◌⊎◌, ℕ, ◌-◌, ◌≤◌, leb, length, take, drop, replicate, Option, Some, None}
use Rattle.std.proofs.Math.Option as Model
use Rattle.model.specs.Registers.{no_delivery}
use Rattle.model.specs.Registers as Registers
use Rattle.model.specs.Image as Image
use Rattle.addresses.specs.Set.{in_set}
use Rattle.host.specs.Record.{registers_of, delivery_of}
use Rattle.host.specs.declared.record.Registers as Record
use Rattle.fields.specs.declared.rules.Rules.{Rules}
use Rattle.fields.specs.declared.rules.Rules.TheVariants.{Today, Stored}
unfoldable pub use Rattle.fields.specs.Rules.{rules_of}
use Rattle.loading.specs.declared.Loading.{Loading}

-- THE STORE has 8,192 words for memory in front, or none where an image's needs are asked; its last 128 are the set of the addresses that a WD has had
unfoldable pub keeps_words : (store : List ℕ) → Bool
keeps_words m = leb 8320 (length m)

unfoldable pub memory_in : (words : ℕ) → (store : List ℕ) → List ℕ
memory_in n m = cond (keeps_words m) (take n m) (replicate n 0)

unfoldable pub set_in : (store : List ℕ) → List ℕ
set_in m = drop (length m - 128) m

unfoldable pub rules_in : Rules → (store : List ℕ) → Image.Rules
rules_in Stored m = Image.stored
rules_in Today m = cond (keeps_words m) Image.today Image.sizing

-- what ME and ST gave, once they have come
abbrev pub memory_given : (words : Option ℕ) → (store : List ℕ) → Model.Option (List ℕ)
memory_given None m = Model.none
memory_given (Some n) m = Model.some (memory_in n m)

abbrev pub registers_given : Option Record.Registers → Model.Option Registers.Registers
registers_given None = Model.none
registers_given (Some r) = Model.some (registers_of r)

abbrev pub delivery_given : Option Record.Registers → Registers.Delivery
delivery_given None = no_delivery
delivery_given (Some r) = delivery_of r

unfoldable pub as_loading : Loading → (store : List ℕ) → Image.Loading
as_loading l m =
    record {
      rules = rules_in l.rules m;
      written = in_set (set_in m);
      memory = memory_given l.words m;
      registers = registers_given l.registers;
      delivery = delivery_given l.registers;
    }

-- stored images have no needs
unfoldable pub StoreSized : Rules → (size : ℕ) → Type 0
StoreSized v n = (n ≡ 8320) ⊎ ((n ≡ 128) × (v ≡ Today))

-- until ME has come, what is lent is zeros, so that ME has nothing to write
abbrev pub MemoryWithin : (words : Option ℕ) → (store : List ℕ) → Type 0
MemoryWithin (Some n) m = n ≤ 8192
MemoryWithin None m = m ≡ replicate (length m) 0

pub record LoadingWithin (l : Loading) (m : List ℕ) : Type 0 where
  pub sized : StoreSized l.rules (length m)
  pub memory_within : MemoryWithin l.words m

-- nothing is loaded, and 8,320 zeros may be lent
unfoldable pub Starts : Rules → Loading → Type 0
Starts v l = (m : List ℕ) → m ≡ replicate 8320 0 → LoadingWithin l m × (as_loading l m ≡ Image.nothing_loaded (rules_of v))

-- or 128 for an image's needs
unfoldable pub StartsSizing : Rules → Loading → Type 0
StartsSizing v l = v ≡ Today → (m : List ℕ) → m ≡ replicate 128 0 → LoadingWithin l m × (as_loading l m ≡ Image.nothing_loaded Image.sizing)
