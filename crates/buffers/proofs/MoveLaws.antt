-- What stands where in a buffer some of whose bytes were moved towards its front. Assumes nothing.
use Rattle.std.proofs.Common.{◌≡◌, sym, ◌∙◌, ap, List, ◌++◌, ℕ, ◌+◌, ◌≤◌, length, take, drop, length-drop, take-append-drop, arith}
use Rattle.std.proofs.Math.Seq.{take-add, drop_at, length-take-le, length-paste, take-paste, drop-paste}
use Rattle.buffers.specs.Move.{bytes_moved}

-- bytes that stand there already
pub moved_nowhere : (l : List ℕ) (from to : ℕ) → from ≡ to → (n : ℕ) → l ≡ bytes_moved from to n l
unfolding bytes_moved
moved_nowhere l from to e n =
    sym (take-append-drop (to + n) l)
    ∙ ap (λ xs. xs ++ drop (to + n) l) (take-add to n l ∙ ap (λ k. take to l ++ take n (drop k l)) (sym e))

module _ (l : List ℕ) (from to : ℕ) (n : ℕ) (below : to ≤ from) (fits : from + n ≤ length l) where
  size_left : n ≤ length (drop from l)
  size_left = omega (arith, length-drop from l)

  pub length_moved : length (bytes_moved from to n l) ≡ length l
  unfolding bytes_moved
  length_moved = length-paste l to (drop from l) n (omega arith) size_left

  -- what stands before the moved bytes, with them, and what stands after them
  pub take_moved : take (to + n) (bytes_moved from to n l) ≡ take to l ++ take n (drop from l)
  unfolding bytes_moved
  take_moved = take-paste l to (drop from l) n (omega arith) size_left

  pub drop_moved : drop (to + n) (bytes_moved from to n l) ≡ drop (to + n) l
  unfolding bytes_moved
  drop_moved = drop-paste l to (drop from l) n (omega arith) size_left

-- the bytes that were moved, as the end of a front
pub part_of_front : (from n : ℕ) (l : List ℕ) → from ≤ length l → take n (drop from l) ≡ drop from (take (from + n) l)
part_of_front from n l h = sym (ap (drop from) (take-add from n l) ∙ drop_at (take from l) (take n (drop from l)) from (length-take-le from l h))
