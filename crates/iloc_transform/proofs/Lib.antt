pub mod RoomLemmas
pub mod ValueLemmas
pub mod ValueOwed
pub mod FieldsLemmas
pub mod MapLemmas
pub mod PrintLemmas
pub mod FieldsEqualityLemmas
pub mod TransformLemmas
pub mod TextLemmas
pub mod FewLemmas
pub mod EqualityLemmas
mod OwedLemmas
