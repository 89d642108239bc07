use mathlib.Core.Path.{◌≡◌}
use Prim.Native.Nat.{◌-◌, ◌≤◌}
use lib.ListN.{length}
use Rattle.image.specs.Load.{WordsLoaded}
use Rattle.image.proofs.word_records.load_words.Given as goal

abbrev pub invariant-loop-loading : goal.invariant-loop-loading
invariant-loop-loading l = WordsLoaded l.loading l.initial.store l.bytes l.at l.store × (l.at ≤ length l.bytes) × (length l.store ≡ length l.initial.store)

abbrev pub decreases-loop-loading : goal.decreases-loop-loading
decreases-loop-loading l = length l.bytes - l.at
