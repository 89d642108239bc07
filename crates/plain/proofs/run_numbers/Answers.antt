-- `run_numbers` meets its contract. Assumes nothing.
use Rattle.std.proofs.Common.{ap, rules}
use Rattle.questions.specs.Numbers.{number_by, start_number}
use Rattle.plain.proofs.PlainLaws.{sum_fits, run_plainly}
use Rattle.plain.proofs.run_numbers.Goals as goal

pub counted-requires : goal.counted-requires
counted-requires c = sum_fits _ _ _ _ c.run-y.ensures.2 (search rules)

pub returns : goal.returns
returns c =
    run_plainly _ _ _ _ _ _ _ c.start_answer.ensures _ (ap (number_by start_number) c.in_default.is) _ _ _ _ c.run-y.ensures.0 c.run-y.ensures.1 c.run-y.ensures.2 _ c.counted.ensures
    c.answer_of-2.ensures
