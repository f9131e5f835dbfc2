pub mod ValueReading
pub mod FieldsReading
pub mod FieldsOrder
pub mod LangReading
pub mod TransformReading
pub mod Sizes
