-- A word number of a segment has sixteen bits. Assumes nothing.
use Rattle.std.proofs.Common.{ℕ, ◌<◌, arith}
use Rattle.model.specs.Words.{field, descriptor_in}

pub word_below : (d i : ℕ) → i < (descriptor_in d).length → i < 65536
unfolding descriptor_in field
word_below d i h = omega arith
