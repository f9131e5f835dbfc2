pub mod Room
pub mod Sizes
