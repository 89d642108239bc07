-- Demand 3 as a statement, a worked instance, and what each hypothesis is for. Assumes nothing: these are definitions.
pub mod Statement
pub mod Example
pub mod Needed
