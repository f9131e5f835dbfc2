pub mod Syntax
pub mod ShortLists
-- In the order in which they read.
pub mod Meaning
pub mod Tree
pub mod TreeSteps
pub mod ByBlocks
pub mod Values
pub mod Reading
pub mod Computing
pub mod Examples
pub mod StepTests
