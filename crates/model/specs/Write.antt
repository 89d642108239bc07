-- 02, L8: an image written down, the way back from 'Images and the listing'. Assumes nothing: these are definitions.
use Rattle.std.specs.Prelude.{cond, List, [], ◌∷◌, ◌++◌, ℕ, zero, suc, ◌/◌, ◌%◌, ◌^◌, eqb, length}
use Rattle.model.specs.Words.{Pointer}
use Rattle.model.specs.Registers.{Registers, Delivery, Machine}
use Rattle.model.specs.Listing.{ascii}

-- NUMBERS: n bytes of one, high byte first
unfoldable pub bytes : (n value : ℕ) → List ℕ
bytes zero v = []
bytes (suc n) v = v / 256 ^ n % 256 ∷ bytes n v

unfoldable pub pointer_bytes : Pointer → List ℕ
pointer_bytes p = bytes 1 p.ring ++ bytes 2 p.segment ++ bytes 2 p.word

unfoldable pub pointers_bytes : List Pointer → List ℕ
pointers_bytes [] = []
pointers_bytes (p ∷ ps) = pointer_bytes p ++ pointers_bytes ps

-- RECORDS; ST of a stored image, and today's
unfoldable pub ME_record : (size : ℕ) → List ℕ
ME_record n = ascii "ME" ++ bytes 4 n

unfoldable pub stored_ST : Registers → List ℕ
stored_ST r =
    ascii "ST" ++ bytes 8 r.a ++ bytes 4 r.dbr.address ++ bytes 2 r.dbr.length ++ pointer_bytes r.ipr ++ pointers_bytes r.prs

unfoldable pub delivery_bytes : Delivery → List ℕ
delivery_bytes v = bytes 1 v.switch ++ bytes 2 v.save ++ bytes 2 v.handler

unfoldable pub ST_record : Registers → Delivery → List ℕ
ST_record r v = stored_ST r ++ delivery_bytes v

unfoldable pub WD_record : (address word : ℕ) → List ℕ
WD_record a w = ascii "WD" ++ bytes 4 a ++ bytes 8 w

unfoldable pub RN_record : (budget : ℕ) → List ℕ
RN_record b = ascii "RN" ++ bytes 4 b

-- THE IMAGE: ME, ST, a WD for each word that isn't zero, in the order of addresses, RN
unfoldable pub word_records : (address : ℕ) → (words : List ℕ) → List ℕ
word_records a [] = []
word_records a (w ∷ ws) = cond (eqb w 0) [] (WD_record a w) ++ word_records (suc a) ws

unfoldable pub written_image : Delivery → Machine → (budget : ℕ) → List ℕ
written_image v m b = ME_record (length m.memory) ++ ST_record m.registers v ++ word_records 0 m.memory ++ RN_record b
