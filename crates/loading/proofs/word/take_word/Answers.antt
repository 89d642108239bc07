-- `word::take_word` meets its contract. Assumes nothing.
use borrow.Author.Rules.{rules}
use mathlib.Core.Path.{refl}
use Rattle.loading.proofs.RecordLaws.{word_loaded}
use Rattle.loading.proofs.word.take_word.Goals as goal

pub returns-in_default : goal.returns-in_default
returns-in_default c = record { size_same = refl; memory_within = search (rules, word_loaded); goes = λ r e. search (rules, word_loaded); kept = refl }

pub returns-then-address-words : goal.returns-then-address-words
returns-then-address-words c = record { size_same = refl; memory_within = search (rules, word_loaded); goes = λ r e. search (rules, word_loaded); kept = refl }

pub may_write-requires : goal.may_write-requires
may_write-requires c = search (rules, word_loaded)

pub returns-then-not-may_write : goal.returns-then-not-may_write
returns-then-not-may_write c = record { size_same = search (rules, word_loaded); memory_within = search (rules, word_loaded); goes = λ r e. search (rules, word_loaded); kept = search (rules, word_loaded) }

pub put_word-requires : goal.put_word-requires
put_word-requires c = search (rules, word_loaded)

pub returns : goal.returns
returns c = record { size_same = search (rules, word_loaded); memory_within = search (rules, word_loaded); goes = λ r e. search (rules, word_loaded); kept = tt }
