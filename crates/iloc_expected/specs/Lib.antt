pub mod Kinds
pub mod Standing
pub mod Words
pub mod Readings
