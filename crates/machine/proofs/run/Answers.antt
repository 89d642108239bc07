-- `run` meets its contract. Assumes nothing.
use Rattle.std.proofs.Common.{ap, rules, sym, ◌∙◌}
use Rattle.questions.specs.Numbers.{number_by, start_number}
use Rattle.plain.proofs.PlainLaws.{sum_fits}
use Rattle.machine.proofs.AnswerLaws.{from_one, refused_whole, run_whole}
use Rattle.machine.proofs.run.Goals as goal

pub returns-in-Err : goal.returns-in-Err
returns-in-Err c =
    refused_whole _ _ _ _ _ _ _ _ (c.number.ensures ∙ sym (ap (number_by start_number) c.in-Err.is) ∙ c.ask.ensures.answer) _ _ c.ask.ensures.stays _ (λ z. from_one c.in-Err.error (sym c.number.ensures ∙ z))
    c.answer_of.ensures

pub counted-requires : goal.counted-requires
counted-requires c = sum_fits _ _ _ _ c.run-y.ensures.2 (search rules)

pub returns : goal.returns
returns c =
    run_whole _ _ _ _ _ _ _ _ c.ask.ensures.answer _ _ c.ask.ensures.stays _ (ap (number_by start_number) c.in_default.is) _ _ _ _ c.run-y.ensures.0 c.run-y.ensures.1 c.run-y.ensures.2 _
    c.counted.ensures c.answer_of-2.ensures
