-- `translate::translate` meets its contract. Assumes nothing.
use Rattle.std.proofs.Common.{refl, rules, ltb-true}
use Rattle.words.specs.View.{as_pointer}
use Rattle.segments.specs.Translation.{as_dbr, descriptor_word}
use Rattle.segments.proofs.TranslateLaws.{word_refused, word_passes}
use Rattle.segments.proofs.translate.translate.Goals as goal

pub returns-in_err-word_answer : goal.returns-in_err-word_answer
unfolding descriptor_word
returns-in_err-word_answer c =
    let h = word_refused (as_dbr c.args.dbr) c.args.memory.now (as_pointer c.args.p) _ (ltb-true _ _ c.in_ok-answer.ensures) refl _ c.in_err-word_answer.ensures in
    search rules

pub returns : goal.returns
unfolding descriptor_word
returns c = word_passes (as_dbr c.args.dbr) c.args.memory.now (as_pointer c.args.p) _ (ltb-true _ _ c.in_ok-answer.ensures) refl c.in_ok-word_answer.ensures
