-- `reply_of` meets its contract. Assumes nothing.
use mathlib.Core.Path.{refl}
use borrow.Author.Rules.{rules}
use Rattle.answers.proofs.AnswerLaws.{replies_fault, replies}
use Rattle.answers.proofs.reply_of.Goals as goal

pub returns-in-0 : goal.returns-in-0
returns-in-0 c = search (rules, replies)

pub returns-in-1 : goal.returns-in-1
returns-in-1 c = search (rules, replies)

pub returns-in-2 : goal.returns-in-2
returns-in-2 c = search (rules, replies)

pub returns-in_default : goal.returns-in_default
returns-in_default c = replies_fault _ _ refl c.in_default.in_default-own.rest.0.0.1 c.in_default.in_default-own.rest.0.1 c.in_default.in_default-own.rest.1 c.requires
