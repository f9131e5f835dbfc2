pub mod LocaleReading
pub mod Order
pub mod OrderLaws
pub mod LocaleParents
pub mod Sizes
