-- Laws behind the functions' proofs. Assumes nothing.
pub mod WordsLaws
pub mod AnswerLaws
