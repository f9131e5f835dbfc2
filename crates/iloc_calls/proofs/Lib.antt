pub mod AnswerLemmas
pub mod Lengths
pub mod Bounds
pub mod HandedLemmas
pub mod FaultLemmas
pub mod ByNumbers
