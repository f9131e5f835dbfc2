pub mod Ascending
pub mod TakingIn
pub mod Collected
pub mod Equality
pub mod EqualityLaws
pub mod Reads
pub mod Refusals
pub mod Values
