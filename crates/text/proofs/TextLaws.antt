-- Bytes put into a text, one after another. Assumes nothing.
use mathlib.Core.Path.{◌≡◌, refl, sym, ap, ap₂, ◌∙◌}
use mathlib.Core.List.{List, [], ◌∷◌, ◌++◌, append-nil, append_assoc}
use Prim.Native.Nat.{ℕ, suc, ◌+◌, ◌-◌, ◌≤◌, ◌<◌}
use native.Mathlib.Nat.{add-zero}
use native.Mathlib.Omega.{arith}
use lib.ListN.{length, take, drop, set, take-append-drop, length-append, length-set}
use lib.Seq.{length-take-le, take_at, drop-append-add, drop-drop, sets, sets-eq, length-sets, set_comm}
use Rattle.text.specs.Text.{placed, Put}

-- what is put is stored byte by byte
placed_sets : (a : ℕ) (bs t : List ℕ) → a + length bs ≤ length t → placed a bs t ≡ sets t a bs
unfolding placed
placed_sets a bs t h = sym (sets-eq bs t a h)

pub length_placed : (a : ℕ) (bs t : List ℕ) → a + length bs ≤ length t → length (placed a bs t) ≡ length t
length_placed a bs t h = ap length (placed_sets a bs t h) ∙ length-sets t a bs

sets_append : (xs ys t : List ℕ) (a : ℕ) → sets (sets t a xs) (a + length xs) ys ≡ sets t a (xs ++ ys)
sets_append [] ys t a = ap (λ (k : ℕ). sets t k ys) (add-zero a)
sets_append (x ∷ xs) ys t a =
    let e : a + suc (length xs) ≡ suc a + length xs = omega arith in
    ap (λ (k : ℕ). sets (sets (set t a x) (suc a) xs) k ys) e ∙ sets_append xs ys (set t a x) (suc a)

-- the text up to the end of what is put
pub take_placed : (a : ℕ) (bs t : List ℕ) → a ≤ length t → take (a + length bs) (placed a bs t) ≡ take a t ++ bs
unfolding placed
take_placed a bs t h =
    take_at (take a t ++ bs) (drop (a + length bs) t) (a + length bs)
    (omega (arith, length-append (take a t) bs, length-take-le a t h))

-- bytes put after those just put
pub placed_append : (a : ℕ) (xs ys t : List ℕ) → a + length (xs ++ ys) ≤ length t → placed (a + length xs) ys (placed a xs t) ≡ placed a (xs ++ ys) t
placed_append a xs ys t h =
    let l : length (xs ++ ys) ≡ length xs + length ys = length-append xs ys in
    let hx : a + length xs ≤ length t = omega arith in
    let z : length (placed a xs t) ≡ length t = length_placed a xs t hx in
    placed_sets (a + length xs) ys (placed a xs t) (omega arith)
    ∙ ap (λ u. sets u (a + length xs) ys) (placed_sets a xs t hx)
    ∙ sets_append xs ys t a
    ∙ sym (placed_sets a (xs ++ ys) t h)

-- bytes put where others were just put, and at least as many
placed_again : (a : ℕ) (xs ys t : List ℕ) → length xs ≤ length ys → a + length ys ≤ length t → placed a ys (placed a xs t) ≡ placed a ys t
unfolding placed
placed_again a xs ys t l h =
    let n : length (take a t) ≡ a = length-take-le a t (omega arith) in
    let rest : List ℕ = drop (a + length xs) t in
    let over : ℕ = length ys - length xs in
    let past : a + length ys ≡ length (take a t ++ xs) + over = omega (arith, length-append (take a t) xs) in
    let end : a + length xs + over ≡ a + length ys = omega arith in
    ap₂ (λ front back. front ++ ys ++ back)
    (ap (take a) (append_assoc (take a t) xs rest) ∙ take_at (take a t) (xs ++ rest) a n)
    (ap (λ k. drop k (take a t ++ xs ++ rest)) past ∙ drop-append-add (take a t ++ xs) rest over ∙ drop-drop over (a + length xs) t ∙ ap (λ k. drop k t) end)

-- bytes put over the end of those just put
pub placed_over : (a n : ℕ) (xs ys t : List ℕ) → n ≤ length xs → length xs ≤ n + length ys → a + n + length ys ≤ length t
    → placed (a + n) ys (placed a xs t) ≡ placed a (take n xs ++ ys) t
placed_over a n xs ys t l o h =
    let front : length (take n xs) ≡ n = length-take-le n xs l in
    let parts : length (take n xs ++ drop n xs) ≡ length xs = ap length (take-append-drop n xs) in
    let sum : length (take n xs ++ drop n xs) ≡ length (take n xs) + length (drop n xs) = length-append (take n xs) (drop n xs) in
    let both : length (take n xs ++ ys) ≡ length (take n xs) + length ys = length-append (take n xs) ys in
    let same : length (placed a (take n xs) t) ≡ length t = length_placed a (take n xs) t (omega arith) in
    let at_n : a + length (take n xs) ≡ a + n = omega arith in
    ap (λ zs. placed (a + n) ys (placed a zs t)) (sym (take-append-drop n xs))
    ∙ ap (placed (a + n) ys) (sym (placed_append a (take n xs) (drop n xs) t (omega arith)) ∙ ap (λ k. placed k (drop n xs) (placed a (take n xs) t)) at_n)
    ∙ placed_again (a + n) (drop n xs) ys (placed a (take n xs) t) (omega arith) (omega arith)
    ∙ ap (λ k. placed k ys (placed a (take n xs) t)) (sym at_n)
    ∙ placed_append a (take n xs) ys t (omega arith)

-- one byte put is one store
pub placed_byte : (a b : ℕ) (t : List ℕ) → a < length t → placed a (b ∷ []) t ≡ set t a b
placed_byte a b t h = placed_sets a (b ∷ []) t (omega arith)

sets_before : (xs t : List ℕ) (a k y : ℕ) → a + length xs ≤ k → sets (set t k y) a xs ≡ set (sets t a xs) k y
sets_before [] t a k y h = refl
sets_before (x ∷ xs) t a k y h =
    ap (λ u. sets u (suc a) xs) (set_comm t k a y x (λ e. omega arith)) ∙ sets_before xs (set t a x) (suc a) k y (omega arith)

-- the last byte put first
pub placed_last : (a : ℕ) (xs : List ℕ) (y : ℕ) (t : List ℕ) → a + length xs < length t → placed a xs (set t (a + length xs) y) ≡ placed a (xs ++ (y ∷ [])) t
placed_last a xs y t h =
    let l : length (xs ++ (y ∷ [])) ≡ length xs + 1 = length-append xs (y ∷ []) in
    let z : length (set t (a + length xs) y) ≡ length t = length-set t (a + length xs) y in
    placed_sets a xs (set t (a + length xs) y) (omega arith)
    ∙ sets_before xs t a (a + length xs) y (omega arith)
    ∙ sets_append xs (y ∷ []) t a
    ∙ sym (placed_sets a (xs ++ (y ∷ [])) t (omega arith))

-- the same of texts and places that a caller has at hand
module _ (a b c : ℕ) (xs ys : List ℕ) where
  pub next_after : b ≡ a + length xs → c ≡ b + length ys → c ≡ a + length (xs ++ ys)
  next_after q s = omega (arith, length-append xs ys)

  pub put_after : (t u v : List ℕ) → u ≡ placed a xs t → b ≡ a + length xs → v ≡ placed b ys u → c ≡ b + length ys → c ≤ length t
      → v ≡ placed a (xs ++ ys) t
  put_after t u v p q r s h =
      let e : length (xs ++ ys) ≡ length xs + length ys = length-append xs ys in
      r ∙ ap (λ z. placed b ys z) p ∙ ap (λ k. placed k ys (placed a xs t)) q ∙ placed_append a xs ys t (omega arith)

-- no bytes
pub placed_none : (a : ℕ) (t : List ℕ) → placed a [] t ≡ t
unfolding placed
placed_none a t = ap (λ k. take a t ++ [] ++ drop k t) (add-zero a) ∙ ap (λ xs. xs ++ drop a t) (append-nil (take a t)) ∙ take-append-drop a t

-- one part after another
pub both_put : (k m n a b c : ℕ) (xs ys t u w : List ℕ) → Put m a xs t u b → Put n b ys u w c → k ≡ m + n → a + k ≤ length t → Put k a (xs ++ ys) t w c
both_put k m n a b c xs ys t u w p q e h =
    (put_after a b c xs ys t u w p.0 p.1 q.0 q.1 (omega arith), next_after a b c xs ys p.1 q.1, omega arith)

-- a part less to put
pub rest_to_put : (n a b : ℕ) (xs ys t u z : List ℕ) → Put n a xs t u b → a + length (xs ++ ys) ≤ length t → placed a (xs ++ ys) t ≡ z → placed b ys u ≡ z
rest_to_put n a b xs ys t u z p h e =
    ap (placed b ys) p.0 ∙ ap (λ k. placed k ys (placed a xs t)) p.1 ∙ placed_append a xs ys t h ∙ e
