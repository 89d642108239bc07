-- `word_records::load_next` meets its contract. Assumes nothing.
use Rattle.image.proofs.LoadLaws.{words_as_one}
use Rattle.image.proofs.word_records.load_next.Goals as goal

pub returns-then-used-ne0 : goal.returns-then-used-ne0
returns-then-used-ne0 c = words_as_one _ _ _ _ _ _ c.load_words-used.ensures c.if-used-ne0.true
