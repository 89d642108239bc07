-- Each hypothesis of demand 3 dropped in turn, and a small pair of memories that tells against the rest. Assumes nothing: these are definitions.
use Rattle.std.specs.Prelude.{◌≡◌, List, [], ◌∷◌, ℕ, ◌+◌, ◌*◌, ◌^◌, ◌≤◌, length}
use Rattle.model.specs.Words.{Pointer}
use Rattle.model.specs.Registers.{Registers, Delivery, machine}
use Rattle.model.specs.Opcodes.{LDA, STA, LDBR}
use Rattle.model.specs.Notation.{pointer, segment, by_ipr, by_pr}
use Rattle.secrecy.specs.Statement.{Agree, DescriptorsUnwritable, Alike}

-- DBR's ADDRESS is 0; A is 0; PR0 to PR7 are in IPR's ring, and PR2 and PR3 point to the segments given
unfoldable pub registers_in : (ring segment descriptors pr2 pr3 : ℕ) → Registers
registers_in n s l x y =
    let p : ℕ → Pointer = λ i. pointer n i 0 in
    record { a = 0; dbr = record { address = 0; length = l }; ipr = p s; prs = p 0 ∷ p 0 ∷ p x ∷ p y ∷ p 0 ∷ p 0 ∷ p 0 ∷ p 0 ∷ [] }

-- WITHOUT n FROM 1: ring 0 loads DBR, and so a descriptor of the hidden word
abbrev pub WithoutRingFrom1 : Type 0
WithoutRingFrom1 =
    (v : Delivery) (n b : ℕ) (r : Registers) (m k : List ℕ) → n ≤ r.ipr.ring → length m ≡ length k → Agree n (machine r m) m k →
    DescriptorsUnwritable n (machine r m) → Alike v n b r m k

unfoldable pub registers_in_ring_0 : Registers
registers_in_ring_0 = registers_in 0 0 1 1 0

-- segment 0 is words 1 to 3: LDBR of word 3, LDA by PR2, and the word that DBR becomes; words 4 and 5 are the new descriptors
unfoldable pub memory_with_dbr_word : (hidden : ℕ) → List ℕ
memory_with_dbr_word h =
    segment 1 3 0 0 0 "R E V" 0 ∷ by_ipr LDBR 2 ∷ by_pr LDA 2 ∷ (4 + 2 * 2 ^ 24)
    ∷ segment 1 3 0 0 0 "R E V" 0 ∷ segment 6 1 0 0 0 "R V" 0 ∷ h ∷ []

-- WITHOUT A START IN RING n OR ABOVE: ring 0 reads the hidden word where n is 1
abbrev pub WithoutStartInRing : Type 0
WithoutStartInRing =
    (v : Delivery) (n b : ℕ) (r : Registers) (m k : List ℕ) → 1 ≤ n → length m ≡ length k → Agree n (machine r m) m k →
    DescriptorsUnwritable n (machine r m) → Alike v n b r m k

-- segment 0 is words 1 and 2: LDA of word 2, which rings up to `ring` may read
unfoldable pub memory_for_ring : (ring word : ℕ) → List ℕ
memory_for_ring n w = segment 1 2 n n n "R E V" 0 ∷ by_ipr LDA 1 ∷ w ∷ []

-- WITHOUT MEMORIES OF ONE LENGTH: the longer has segment 1, and in the shorter 14 is answered no
abbrev pub WithoutSameLength : Type 0
WithoutSameLength =
    (v : Delivery) (n b : ℕ) (r : Registers) (m k : List ℕ) → 1 ≤ n → n ≤ r.ipr.ring → Agree n (machine r m) m k → DescriptorsUnwritable n (machine r m) →
    Alike v n b r m k

unfoldable pub registers_in_ring_4 : (descriptors : ℕ) → Registers
registers_in_ring_4 l = registers_in 4 0 l 1 2

-- segment 0 is word 2, LDA by PR2; segment 1 is word 3
unfoldable pub memory_and : (more : List ℕ) → List ℕ
memory_and ws = segment 2 1 4 4 4 "R E V" 0 ∷ segment 3 1 4 4 4 "R V" 0 ∷ by_pr LDA 2 ∷ ws

-- WITHOUT AGREEMENT on the words readable from ring n: ring 4 reads one, in `memory_for_ring`
abbrev pub WithoutAgreement : Type 0
WithoutAgreement =
    (v : Delivery) (n b : ℕ) (r : Registers) (m k : List ℕ) → 1 ≤ n → n ≤ r.ipr.ring → length m ≡ length k → DescriptorsUnwritable n (machine r m) →
    Alike v n b r m k

-- WITHOUT UNWRITABLE DESCRIPTORS: ring 4 stores a new descriptor of ring 1's segment, and then reads the hidden word
abbrev pub WithoutUnwritableDescriptors : Type 0
WithoutUnwritableDescriptors =
    (v : Delivery) (n b : ℕ) (r : Registers) (m k : List ℕ) → 1 ≤ n → n ≤ r.ipr.ring → length m ≡ length k → Agree n (machine r m) m k → Alike v n b r m k

-- segment 0 is words 3 to 6: LDA of word 6, STA by PR3 at the second descriptor, LDA by PR2, the new descriptor; segment 1 is the hidden word, segment 2 the descriptors
unfoldable pub memory_with_open_descriptors : (hidden : ℕ) → List ℕ
memory_with_open_descriptors h =
    segment 3 4 4 4 4 "R E V" 0 ∷ segment 7 1 1 1 1 "R V" 0 ∷ segment 0 3 4 4 4 "R W V" 0
    ∷ by_ipr LDA 3 ∷ (by_pr STA 3 + 1) ∷ by_pr LDA 2 ∷ segment 7 1 4 4 4 "R V" 0 ∷ h ∷ []
