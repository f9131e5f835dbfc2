pub mod Kinds
pub mod Steps
pub mod Answers
pub mod Parts
pub mod Reading
pub mod Refused
pub mod Texts
