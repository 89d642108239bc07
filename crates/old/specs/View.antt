-- The way of a conversion, what a word lacks and the answer as the model's. Assumes nothing: these are definitions.
use Rattle.std.specs.Prelude.{ℕ, Result, Ok, Err}
use Rattle.model.specs.Old as Model
use Rattle.old.specs.declared.Answer.{Answer}
use Rattle.old.specs.declared.WordError.{WordError}
use Rattle.old.specs.declared.word.FormError.{FormError}
use Rattle.old.specs.declared.word.Way.{Way}

abbrev pub as_way : Way → Model.Way
as_way Way.FromOld = Model.from_old
as_way Way.ToOld = Model.to_old

abbrev pub as_answer : Answer → Model.Answer
as_answer x = record { number = x.number; index = x.index }

abbrev pub form_number : FormError → ℕ
form_number FormError.NotOld = 56
form_number FormError.NotConvertible = 57

-- what is asked of a word comes to a number, 0 where it passes
abbrev pub form_answer : {A : Type 0} → Result A FormError → ℕ
form_answer (Ok _) = 0
form_answer (Err e) = form_number e

-- what is asked of all words comes to the model's answer
abbrev pub answer_of : {A : Type 0} → Result A WordError → Model.Answer
answer_of (Ok _) = record { number = 0; index = 0 }
answer_of (Err e) = record { number = form_number e.form; index = e.index }
