-- `may_call` meets its contract. Assumes nothing.
use mathlib.Core.Path.{◌∙◌, ap}
use Rattle.model.specs.Answers.{check_numbers}
use borrow.Author.Rules.{rules}
use Rattle.checks.proofs.may_call.Goals as goal

pub ask-requires : goal.ask-requires
ask-requires c = search rules

pub numbers_of-requires : goal.numbers_of-requires
numbers_of-requires c = search rules

pub returns : goal.returns
returns c = c.numbers_of.ensures ∙ ap check_numbers c.ask.ensures.0
