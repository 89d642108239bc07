-- A byte put after others from a slice. Assumes nothing.
use Rattle.std.proofs.Common.{◌≡◌, sym, ap, ◌∙◌, List, [], ◌∷◌, ℕ, ◌+◌, ◌≤◌, length, take, get_or, set, arith}
use Rattle.std.proofs.Math.Seq.{take-suc, length-take-le}
use Rattle.text.specs.Text.{placed}
use Rattle.text.proofs.TextLaws.{placed_byte, put_after, length_placed}

-- the ninth of ten, after eight
pub ninth_byte_put : (a : ℕ) (bs t u : List ℕ) → length bs ≡ 10 → a + 10 ≤ length t → u ≡ placed a (take 8 bs) t → set u (a + 8) (get_or bs 8 0) ≡ placed a (take 9 bs) t
ninth_byte_put a bs t u n h p =
    let y : ℕ = get_or bs 8 0 in
    let k : length (take 8 bs) ≡ 8 = length-take-le 8 bs (omega arith) in
    let e : length u ≡ length t = ap length p ∙ length_placed a (take 8 bs) t (omega arith) in
    put_after a (a + 8) (a + 9) (take 8 bs) (y ∷ []) t u (set u (a + 8) y) p (omega arith) (sym (placed_byte (a + 8) y u (omega arith))) (omega arith) (omega arith)
    ∙ ap (λ xs. placed a xs t) (sym (take-suc bs 8 0 (omega arith)))
