-- Document 03's definitions, the model's values as 03's, and the statements of their equality. Assumes nothing: these are definitions.
pub mod Machine
pub mod Step
pub mod Run
pub mod Promise
pub mod Entry
pub mod View
pub mod Equal
