pub mod Advice
pub mod Answers
