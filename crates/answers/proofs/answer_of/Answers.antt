-- `answer_of` meets its contract. Assumes nothing.
use borrow.Author.Rules.{rules}
use Rattle.answers.proofs.AnswerLaws.{refused_answered, spent_answered, halted_answered, fault_answered, is_nowhere}
use Rattle.answers.proofs.answer_of.Goals as goal

pub returns-in-Refused : goal.returns-in-Refused
returns-in-Refused c = refused_answered _ _ _ _ _ c.in-Refused.is (search rules) (is_nowhere _ c.default.ensures)

pub returns-in-Spent : goal.returns-in-Spent
returns-in-Spent c = spent_answered _ _ _ _ _ c.in-Spent.is (search rules) (is_nowhere _ c.default.ensures)

pub returns-in-Halted : goal.returns-in-Halted
returns-in-Halted c = halted_answered _ _ _ _ _ c.in-Halted.is (search rules) (is_nowhere _ c.default.ensures)

pub returns-in-Fault : goal.returns-in-Fault
returns-in-Fault c = fault_answered _ _ _ _ _ _ c.requires c.in-Fault.is (search rules) (search rules)
