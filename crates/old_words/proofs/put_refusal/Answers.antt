-- What `put_refusal` owes. Assumes nothing.
use Rattle.std.proofs.Common.{rules}
use Rattle.model.specs.Listing.{ascii}
use Rattle.old_words.proofs.AnswerLaws.{refusal_put}
use Rattle.old_words.proofs.put_refusal.Goals as goal

pub returns : goal.returns
unfolding ascii
returns c = search (rules, refusal_put)
