-- Laws of this crate. Assumes nothing.
pub mod AnswerLaws
pub mod AskLaws
pub mod SingleLaws
