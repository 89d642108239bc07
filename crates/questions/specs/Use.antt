-- The questions of each use of a segment. Assumes nothing: these are definitions.
use Rattle.model.specs.Words as Words
use Rattle.model.specs.Questions.{Question, fetch_questions, read_questions, write_questions, transfer_questions, return_questions, call_questions, part_questions}
use Rattle.questions.specs.declared.Use.{Use}

-- what a use by the instruction at ipr asks, once 11 to 15 have passed
abbrev pub questions_of : Use → (ipr t : Words.Pointer) → Question
questions_of Use.Fetch ipr t = fetch_questions t
questions_of Use.Read ipr t = read_questions t
questions_of Use.Write ipr t = write_questions t
questions_of Use.Transfer ipr t = transfer_questions ipr t
questions_of Use.Return ipr t = return_questions t
questions_of Use.Call ipr t = call_questions ipr t
questions_of Use.Frame ipr t = part_questions 13 t
