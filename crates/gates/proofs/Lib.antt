-- The proofs of L10: the step by one law over programs of questions, the run by what stands after one step more, the list by its descriptors. Assumes nothing.
pub mod FallingLaws
pub mod ListedLaws
