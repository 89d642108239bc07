-- `memory::put_word` meets its contract. Assumes nothing.
use borrow.Author.Rules.{rules}
use Rattle.model.specs.Listing.{ascii}
use Rattle.writing.proofs.PutLaws.{zero_word_put, word_put}
use Rattle.writing.proofs.memory.put_word.Goals as goal

pub returns-then-word-eq0 : goal.returns-then-word-eq0
returns-then-word-eq0 c = search (rules, zero_word_put)

pub returns : goal.returns
unfolding ascii
returns c = search (rules, word_put)
