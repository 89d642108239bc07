-- What `put_answer` owes. Assumes nothing.
use Rattle.std.proofs.Common.{refl, sym, ◌∙◌}
use Rattle.tables.proofs.JudgeLaws.{error_number_not_0}
use Rattle.brackets.proofs.AnswerLaws.{start_not_0, refused_by_start, refused_by_table, image_set}
use Rattle.brackets.proofs.put_answer.Goals as goal

pub returns-in-Err : goal.returns-in-Err
returns-in-Err c =
    refused_by_start _ _ _ _ _ (c.number.ensures ∙ c.in-Err.ensures) (λ z. start_not_0 _ (sym c.number.ensures ∙ z)) _ _ _ c.put_refusal.ensures

pub returns-in-Err-set_brackets : goal.returns-in-Err-set_brackets
returns-in-Err-set_brackets c =
    refused_by_table _ _ _ _ _ c.in_default.ensures refl _ (c.number-in-Err-set_brackets.ensures ∙ c.in-Err-set_brackets.ensures.0) (λ z. error_number_not_0 _ (sym c.number-in-Err-set_brackets.ensures ∙ z)) _ _ _
    c.put_refusal-in-Err-set_brackets.ensures

pub returns : goal.returns
returns c = image_set _ _ _ _ _ c.in_default.ensures refl 0 c.in_default-set_brackets.ensures.0 refl _ c.in_default-set_brackets.ensures.1 _ _ _ c.put_image.ensures
