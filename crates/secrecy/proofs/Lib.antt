-- The proof of demand 3, from one law over programs of questions and one over two runs. Assumes nothing.
pub mod View
pub mod Secret
pub mod High
pub mod Lockstep
pub mod Runs
pub mod Plain
pub mod RingsHold
pub mod Judged
pub mod ByComputation
pub mod ExampleHolds
pub mod HypothesesNeeded
