-- What `put_answer` owes. Assumes nothing.
use Rattle.std.proofs.Common.{◌≡◌, refl, sym, ◌∙◌}
use Rattle.old.specs.View.{form_number}
use Rattle.old.proofs.SegmentLaws.{form_number_not_0}
use Rattle.old_words.proofs.AnswerLaws.{refused_put, words_answered}
use Rattle.old_words.proofs.put_answer.Goals as goal

pub returns-in-Ok : goal.returns-in-Ok
returns-in-Ok c = rw c.in-Ok.is (words_answered 0 0 _ _ _ _ refl c.requires.0 c.put_words.ensures)

pub returns-in-Err : goal.returns-in-Err
returns-in-Err c =
    let n : c.from.result ≡ form_number c.in-Err.error.form = cc in
    rw (c.in-Err.is, ← n) (refused_put _ _ _ _ _ _ (λ z. form_number_not_0 _ (sym n ∙ z)) c.put_refusal.ensures)
