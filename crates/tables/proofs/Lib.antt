-- The laws that the proofs of this crate rest on. Assumes nothing.
pub mod RowLaws
pub mod JudgeLaws
pub mod PutLaws
pub mod AnswerLaws
