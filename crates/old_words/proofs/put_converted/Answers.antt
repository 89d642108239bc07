-- What `put_converted` owes. Assumes nothing.
use Rattle.std.proofs.Common.{rules}
use Rattle.old_words.proofs.AnswerLaws.{text_laws}
use Rattle.old_words.proofs.put_converted.Goals as goal

pub put_answer-requires : goal.put_answer-requires
put_answer-requires c = search (rules, text_laws)

pub returns : goal.returns
returns c = search (rules, text_laws)
