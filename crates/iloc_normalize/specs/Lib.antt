pub mod Modes
pub mod Answered
pub mod Subdivisions
pub mod Data
pub mod NormalTexts
