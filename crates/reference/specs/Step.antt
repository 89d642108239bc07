-- Document 03's single step: as it stands there, but for opcode 42 (02, L4). Assumes nothing: these are definitions.
use Rattle.std.specs.Prelude.{Bool, ◌&&◌, ◌||◌, not, cond, List, [], ◌∷◌, map, ℕ, zero, suc, ◌+◌, ◌*◌, ◌-◌, ◌/◌, ◌%◌, min, ltb, leb, eqb, length, get_or, set, take, drop, max}
use Rattle.reference.specs.Machine.{field, on, Place, Regs, pr, descriptor_of, use_refusal, absolute, word_at, rings_from}

abbrev pub words : ℕ
words = 18446744073709551616

-- 02, L4: 42 is in the table, and privileged
unfoldable pub known : (op : ℕ) → Bool
known o =
    (leb 1 o && leb o 10) || ((eqb o 16 || eqb o 17) || ((leb 24 o && leb o 26) || ((eqb o 32 || eqb o 33) || (leb 40 o && leb o 42))))

unfoldable pub privileged : (op : ℕ) → Bool
privileged o = eqb o 40 || eqb o 41 || eqb o 42

unfoldable pub has_operand : (op : ℕ) → Bool
has_operand o = not (eqb o 10 || eqb o 41)

-- a fault: its number, and the ring and address under question
pub record Fault : Type 0 where
  pub number : ℕ
  pub where_at : Place

pub record Machine : Type 0 where
  pub regs : Regs
  pub mem : List ℕ

pub data Stepped : Type 0 where
  faulted : Fault → Stepped
  went : Machine → Stepped

unfoldable pub fault : (number : ℕ) → Place → Stepped
fault n p = faulted (record { number = n; where_at = p })

-- fetch: 11 to 15, 21, 32, 33
unfoldable pub fetch_refusal : Machine → ℕ
fetch_refusal m =
    let p = m.regs.ipr in
    let k = use_refusal m.regs m.mem p in
    let d = descriptor_of m.regs m.mem p.seg in
    let o = field 24 8 (word_at m.regs m.mem p) in
    cond (not (eqb k 0)) k
    (cond (not (d.executes && (leb d.r1 p.ring && leb p.ring d.r2))) 21
    (cond (not (known o)) 32 (cond (privileged o && not (eqb p.ring 0)) 33 0)))

-- the effective address; going through pointer words, at most 64
unfoldable pub place : (ring seg at : ℕ) → Place
place r s a = record { ring = r; seg = s; at = a % 65536 }

unfoldable pub first_address : (instruction : ℕ) → Regs → Place
first_address i r =
    let p = pr r (field 16 3 i) in
    cond (on 19 i) (place (max r.ipr.ring p.ring) p.seg (p.at + field 0 16 i)) (place r.ipr.ring r.ipr.seg (r.ipr.at + field 0 16 i))

pub data Address : Type 0 where
  bad : (number : ℕ) → Place → Address
  good : Place → Address

unfoldable pub pointer_refusal : Machine → Place → ℕ
pointer_refusal m t =
    let k = use_refusal m.regs m.mem t in
    let d = descriptor_of m.regs m.mem t.seg in
    cond (not (eqb k 0)) k (cond (d.reads && leb t.ring d.r2) 0 22)

unfoldable pub through : (left : ℕ) → (indirect : Bool) → Machine → Place → Address
through zero i m t = cond i (bad 31 t) (good t)
through (suc n) i m t =
    let w = word_at m.regs m.mem t in
    let k = pointer_refusal m t in
    let d = descriptor_of m.regs m.mem t.seg in
    let next = through n (on 31 w) m (place (max t.ring (max (field 28 3 w) d.r1)) (field 16 12 w) (field 0 16 w)) in
    cond (not i) (good t) (cond (eqb k 0) next (bad k t))

unfoldable pub effective : (instruction : ℕ) → Machine → Address
effective i m = through 64 (on 20 i) m (first_address i m.regs)

-- registers after
unfoldable pub with_a : ℕ → Regs → Regs
with_a v r = record { a = v; base = r.base; bound = r.bound; ipr = r.ipr; prs = r.prs }

unfoldable pub with_ipr : Place → Regs → Regs
with_ipr p r = record { a = r.a; base = r.base; bound = r.bound; ipr = p; prs = r.prs }

unfoldable pub with_pr : (i : ℕ) → Place → Regs → Regs
with_pr i p r = record { a = r.a; base = r.base; bound = r.bound; ipr = r.ipr; prs = set r.prs i p }

unfoldable pub with_dbr : (base bound : ℕ) → Regs → Regs
with_dbr b n r = record { a = r.a; base = b; bound = n; ipr = r.ipr; prs = r.prs }

unfoldable pub onward : Regs → Regs
onward r = with_ipr (place r.ipr.ring r.ipr.seg (r.ipr.at + 1)) r

unfoldable pub machine : Regs → List ℕ → Machine
machine r m = record { regs = r; mem = m }

unfoldable pub on_with : Regs → List ℕ → Stepped
on_with r m = went (machine (onward r) m)

-- bit by bit
unfoldable pub bits : (fuel : ℕ) → (ℕ → ℕ → ℕ) → (a b : ℕ) → ℕ
bits zero f a b = 0
bits (suc n) f a b = f (a % 2) (b % 2) + 2 * bits n f (a / 2) (b / 2)

unfoldable pub ones : (fuel word : ℕ) → ℕ
ones zero w = 0
ones (suc n) w = w % 2 + ones n (w / 2)

unfoldable pub worked : (op a v : ℕ) → ℕ
worked o a v =
    cond (eqb o 1) v
    (cond (eqb o 3) ((a + v) % words)
    (cond (eqb o 4) ((a + words - v) % words)
    (cond (eqb o 5) (bits 64 (λ x. λ y. x * y) a v)
    (cond (eqb o 6) (bits 64 (λ x. λ y. x + y - x * y) a v) (cond (eqb o 7) (bits 64 (λ x. λ y. (x + y) % 2) a v) (ones 64 v))))))

-- questions by use
unfoldable pub read_refusal : Machine → Place → ℕ
read_refusal m t = pointer_refusal m t

unfoldable pub may_write : Machine → Place → Bool
may_write m t =
    let d = descriptor_of m.regs m.mem t.seg in d.writes && leb t.ring d.r1

unfoldable pub write_refusal : Machine → Place → ℕ
write_refusal m t =
    let k = use_refusal m.regs m.mem t in cond (not (eqb k 0)) k (cond (may_write m t) 0 23)

unfoldable pub change_refusal : Machine → Place → ℕ
change_refusal m t =
    let k = pointer_refusal m t in cond (not (eqb k 0)) k (cond (may_write m t) 0 23)

unfoldable pub may_execute : Machine → Place → Bool
may_execute m t =
    let d = descriptor_of m.regs m.mem t.seg in d.executes && (leb d.r1 t.ring && leb t.ring d.r2)

unfoldable pub transfer_refusal : Machine → Place → ℕ
transfer_refusal m t =
    let k = use_refusal m.regs m.mem t in
    cond (not (eqb k 0)) k (cond (not (eqb t.ring m.regs.ipr.ring)) 24 (cond (may_execute m t) 0 25))

unfoldable pub return_refusal : Machine → Place → ℕ
return_refusal m t =
    let k = use_refusal m.regs m.mem t in cond (not (eqb k 0)) k (cond (may_execute m t) 0 25)

unfoldable pub new_ring : Machine → Place → ℕ
new_ring m t = min t.ring (descriptor_of m.regs m.mem t.seg).r2

unfoldable pub call_refusal : Machine → Place → ℕ
call_refusal m t =
    let k = use_refusal m.regs m.mem t in
    let d = descriptor_of m.regs m.mem t.seg in
    cond (not (eqb k 0)) k
    (cond (not d.executes) 26
    (cond (not (eqb t.seg m.regs.ipr.seg || ltb t.at d.gate)) 27
    (cond (ltb d.r3 t.ring) 28 (cond (ltb t.ring d.r1) 29 (cond (ltb m.regs.ipr.ring (new_ring m t)) 30 0)))))

unfoldable pub base_refusal : Machine → Place → ℕ
base_refusal m t =
    let k = pointer_refusal m t in
    let w = word_at m.regs m.mem t in
    cond (not (eqb k 0)) k (cond (ltb 4096 (field 24 13 w) || ltb (length m.mem) (field 0 24 w + field 24 13 w)) 34 0)

-- 02, L4, opcode 42: the registers in a frame of thirteen words, whose first two and every I are ignored
unfoldable pub frame_at : Machine → Place → List ℕ
frame_at m t = take 13 (drop (absolute m.regs m.mem t) m.mem)

unfoldable pub place_in_word : (word : ℕ) → Place
place_in_word w = record { ring = field 28 3 w; seg = field 16 12 w; at = field 0 16 w }

unfoldable pub frame_regs : (frame : List ℕ) → Regs
frame_regs ws =
    let w = get_or ws 3 0 in
    record { a = get_or ws 2 0; base = field 0 24 w; bound = field 24 13 w; ipr = place_in_word (get_or ws 4 0); prs = map place_in_word (take 8 (drop 5 ws)) }

-- 34, and 52: is no PR in a lower ring than IPR?
unfoldable pub regs_refusal : (size : ℕ) → Regs → ℕ
regs_refusal n r =
    cond (ltb 4096 r.bound || ltb n (r.base + r.bound)) 34 (cond (not (rings_from r.ipr.ring r.prs)) 52 0)

-- 11 to 15 and 22 of the frame's last word, and so of each, come first
unfoldable pub frame_refusal : Machine → Place → ℕ
frame_refusal m t =
    let k = pointer_refusal m (record { ring = t.ring; seg = t.seg; at = t.at + 12 }) in
    cond (not (eqb k 0)) k (regs_refusal (length m.mem) (frame_regs (frame_at m t)))

unfoldable pub or_fault : (number : ℕ) → Place → Stepped → Stepped
or_fault zero t s = s
or_fault (suc n) t s = fault (suc n) t

unfoldable pub raised : (ring : ℕ) → List Place → List Place
raised r [] = []
raised r (p ∷ ps) = record { ring = max r p.ring; seg = p.seg; at = p.at } ∷ raised r ps

unfoldable pub returned : Place → Regs → Regs
returned t r = record { a = r.a; base = r.base; bound = r.bound; ipr = t; prs = raised t.ring r.prs }

-- amended here alone (02, L6): 03 has PR7 in the segment of the ring's own number after every call
unfoldable pub stack_segment : (ring : ℕ) → Regs → ℕ
stack_segment n r = cond (eqb n r.ipr.ring) (pr r 6).seg n

unfoldable pub called : (ring : ℕ) → Place → Regs → Regs
called n t r =
    with_ipr (record { ring = n; seg = t.seg; at = t.at }) (with_pr 7 (record { ring = n; seg = stack_segment n r; at = 0 }) r)

unfoldable pub pointer_word : Place → ℕ
pointer_word p = p.at + 65536 * p.seg + 268435456 * p.ring

unfoldable pub is_read : (op : ℕ) → Bool
is_read o = eqb o 1 || (leb 3 o && leb o 8)

unfoldable pub jumps : (op a : ℕ) → Bool
jumps o a = eqb o 24 || (eqb o 25 && eqb a 0 || eqb o 26 && leb 9223372036854775808 a)

-- with an operand's address
unfoldable pub performed : (op instruction : ℕ) → Machine → Place → Stepped
performed o i m t =
    let r = m.regs in
    let v = word_at r m.mem t in
    let x = absolute r m.mem t in
    cond (is_read o) (or_fault (read_refusal m t) t (on_with (with_a (worked o r.a v) r) m.mem))
    (cond (eqb o 2) (or_fault (write_refusal m t) t (on_with r (set m.mem x r.a)))
    (cond (eqb o 9) (or_fault (change_refusal m t) t (on_with r (set m.mem x ((v + 1) % words))))
    (cond (eqb o 16) (on_with (with_pr (field 21 3 i) t r) m.mem)
    (cond (eqb o 17) (or_fault (write_refusal m t) t (on_with r (set m.mem x (pointer_word (pr r (field 21 3 i))))))
    (cond (eqb o 32) (or_fault (call_refusal m t) t (went (machine (called (new_ring m t) t r) m.mem)))
    (cond (eqb o 33) (or_fault (return_refusal m t) t (went (machine (returned t r) m.mem)))
    (cond (eqb o 40) (or_fault (base_refusal m t) t (on_with (with_dbr (field 0 24 v) (field 24 13 v) r) m.mem))
    (cond (eqb o 42) (or_fault (frame_refusal m t) t (went (machine (frame_regs (frame_at m t)) m.mem)))
    (cond (jumps o r.a) (or_fault (transfer_refusal m t) t (went (machine (with_ipr t r) m.mem))) (on_with r m.mem))))))))))

unfoldable pub at_address : (op instruction : ℕ) → Machine → Address → Stepped
at_address o i m (bad n t) = fault n t
at_address o i m (good t) = performed o i m t

unfoldable pub step : Machine → Stepped
step m =
    let i = word_at m.regs m.mem m.regs.ipr in
    let o = field 24 8 i in
    let k = fetch_refusal m in
    cond (not (eqb k 0)) (fault k m.regs.ipr)
    (cond (eqb o 10) (on_with (with_a (field 32 32 i) m.regs) m.mem)
    (cond (eqb o 41) (on_with m.regs m.mem) (at_address o i m (effective i m))))

unfoldable pub is_halt : Machine → Bool
is_halt m = eqb (fetch_refusal m) 0 && eqb (field 24 8 (word_at m.regs m.mem m.regs.ipr)) 41
