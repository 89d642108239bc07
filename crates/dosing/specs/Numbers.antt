-- The number of each question that refuses a call of the bench. Assumes nothing: these are definitions.
use Rattle.std.specs.Prelude.{ℕ}
use Rattle.questions.specs.Numbers.{start_number}
use Rattle.loading.specs.Numbers.{load_number}
use Rattle.dosing.specs.declared.error.BenchError.{BenchError}

abbrev pub bench_number : BenchError → ℕ
bench_number (BenchError.Load error) = load_number error
bench_number (BenchError.Start error) = start_number error
bench_number BenchError.TextTooShort = 45
