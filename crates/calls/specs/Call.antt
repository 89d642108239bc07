-- What a call on bytes answers and leaves. Assumes nothing: these are definitions.
use Rattle.std.specs.Prelude.{◌≡◌, List, ℕ, ◌^◌, ◌<◌, ℤ, pos, Result, Ok, Err}
use Rattle.model.specs.Bench as Bench

-- one signed number: the question's negated, or else how many bytes were written
unfoldable pub as_answer : {E : Type 0} → (number : E → ℕ) → Result ℕ E → ℤ
as_answer number (Ok length) = pos length
as_answer number (Err error) = Bench.negated (number error)

-- the same by whatever an error converts to
abbrev pub SignedAs : {E : Type 0} → (converts : E → ℕ → Type 0) → Result ℕ E → ℤ → Type 0
SignedAs converts (Ok length) r = r ≡ pos length
SignedAs converts (Err error) r = (n : ℕ) × (converts error n × (r ≡ Bench.negated n))

abbrev pub LengthFits : {E : Type 0} → Result ℕ E → Type 0
LengthFits (Ok length) = length < 2 ^ 63
LengthFits (Err error) = Unit {0}

-- the definition's answer, and every byte of the buffer
pub record CalledAs {E : Type 0} (number : E → ℕ) (y : Bench.Called) (x : Result ℕ E) (buffer_now : List ℕ) : Type 0 where
  pub answer_same : as_answer number x ≡ y.answer
  pub buffer_same : buffer_now ≡ y.buffer
  pub fits : LengthFits x
