pub mod Judged
pub mod Merging
