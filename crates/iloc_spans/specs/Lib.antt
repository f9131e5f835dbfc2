pub mod More
pub mod Spans
pub mod Inserting
pub mod Group
