-- 01, 'Words and registers': the registers, the machine, and registers with one of them changed. Assumes nothing: these are definitions.
use Rattle.std.specs.Prelude.{List, ℕ, ◌+◌, ◌*◌, ◌%◌, ◌^◌, max, get_or, set}
use Rattle.model.specs.Words.{field, Pointer}

-- DBR: the descriptor segment, whose word s describes segment s
pub record Dbr : Type 0 where
  pub address : ℕ
  pub length : ℕ

pub record Registers : Type 0 where
  pub a : ℕ
  pub dbr : Dbr
  pub ipr : Pointer
  pub prs : List Pointer

-- 02, L4: the switch, the save segment and the handler segment. The host's register record has them after the registers, and no step changes them
pub record Delivery : Type 0 where
  pub switch : ℕ
  pub save : ℕ
  pub handler : ℕ

abbrev pub no_delivery : Delivery
no_delivery = record { switch = 0; save = 0; handler = 0 }

-- registers and the lent memory
pub record Machine : Type 0 where
  pub registers : Registers
  pub memory : List ℕ

unfoldable pub machine : Registers → (memory : List ℕ) → Machine
machine r m = record { registers = r; memory = m }

abbrev pub zero_pointer : Pointer
zero_pointer = record { ring = 0; segment = 0; word = 0 }

unfoldable pub pr : Registers → (number : ℕ) → Pointer
pr r k = get_or r.prs k zero_pointer

-- LDBR's word: bits 0-23 ADDRESS, 24-36 LENGTH, the rest ignored on reading, and zero as it is written
unfoldable pub dbr_in : (word : ℕ) → Dbr
dbr_in w = record { address = field 0 24 w; length = field 24 13 w }

unfoldable pub dbr_word : Dbr → ℕ
dbr_word d = d.address + 2 ^ 24 * d.length

-- ONE REGISTER CHANGED
unfoldable pub with_a : ℕ → Registers → Registers
with_a v r = record { a = v; dbr = r.dbr; ipr = r.ipr; prs = r.prs }

unfoldable pub with_dbr : Dbr → Registers → Registers
with_dbr d r = record { a = r.a; dbr = d; ipr = r.ipr; prs = r.prs }

unfoldable pub with_ipr : Pointer → Registers → Registers
with_ipr p r = record { a = r.a; dbr = r.dbr; ipr = p; prs = r.prs }

unfoldable pub with_prs : List Pointer → Registers → Registers
with_prs ps r = record { a = r.a; dbr = r.dbr; ipr = r.ipr; prs = ps }

unfoldable pub with_pr : (number : ℕ) → Pointer → Registers → Registers
with_pr k p r = with_prs (set r.prs k p) r

-- word numbers go round from 65,535 to 0
unfoldable pub moved_by : (words : ℕ) → Pointer → Pointer
moved_by n p = record { ring = p.ring; segment = p.segment; word = (p.word + n) % 2 ^ 16 }

unfoldable pub with_ring_at_least : (ring : ℕ) → Pointer → Pointer
with_ring_at_least n p = record { ring = max n p.ring; segment = p.segment; word = p.word }

-- step 4: IPR.WORDNO goes up by one
unfoldable pub advanced : Registers → Registers
advanced r = with_ipr (moved_by 1 r.ipr) r
