-- `ask` meets its contract. Assumes nothing.
use Rattle.std.proofs.Common.{ap, subst, ◌∙◌}
use Rattle.std.specs.Prelude.{not}
use Rattle.questions.specs.Numbers.{Starts}
use Rattle.machine.proofs.AskLaws.{ask_delivery, ask_refused, ask_passed, ask_stays, ask_numbered, numbered}
use Rattle.machine.proofs.ask.Goals as goal

pub returns-then-not-is_delivery-clause-answer : goal.returns-then-not-is_delivery-clause-answer
returns-then-not-is_delivery-clause-answer c = (ask_delivery _ _ _ _ _ c.is_delivery.ensures (ap not c.if-not-is_delivery.true) _ c.delivery_refused.ensures).0

pub unwrap-requires : goal.unwrap-requires
unwrap-requires c = numbered _ _ c.try_from.ensures (ask_numbered _ _ _ _ _ c.is_delivery.ensures (ap not c.if-not-is_delivery.false) _ _ _ _ _ _ c.run-x.ensures c.if-x.true)

pub returns-then-x-clause-answer : goal.returns-then-x-clause-answer
returns-then-x-clause-answer c = subst (Starts c.run-x.result.number) c.unwrap.ensures c.try_from.ensures ∙ ask_refused _ _ _ _ _ c.is_delivery.ensures (ap not c.if-not-is_delivery.false) _ _ _ _ _ _ c.run-x.ensures c.if-x.true

pub returns-then-x-clause-stays : goal.returns-then-x-clause-stays
returns-then-x-clause-stays c = ask_stays _ _ _ _ _ c.is_delivery.ensures (ap not c.if-not-is_delivery.false) _ _ _ _ _ _ c.run-x.ensures

pub returns-clause-answer : goal.returns-clause-answer
returns-clause-answer c = ask_passed _ _ _ _ _ c.is_delivery.ensures (ap not c.if-not-is_delivery.false) _ _ _ _ _ _ c.run-x.ensures c.if-x.false

pub returns-clause-stays : goal.returns-clause-stays
returns-clause-stays c = ask_stays _ _ _ _ _ c.is_delivery.ensures (ap not c.if-not-is_delivery.false) _ _ _ _ _ _ c.run-x.ensures
