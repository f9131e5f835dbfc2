pub mod ExtensionsValue
pub mod Kinds
pub mod Retaining
pub mod WellFormed
pub mod Blocks
pub mod Place
pub mod Whole
pub mod Sizes
