pub mod DataValue
pub mod DataParents
pub mod DataEquality
pub mod DataEqualityLaws
pub mod Reads
pub mod WithKeywords
pub mod FormatterValues
