pub mod TakingLemmas
pub mod OtherLemmas
pub mod RoomLemmas
pub mod SingletonLemmas
pub mod TextLemmas
pub mod PrintLemmas
pub mod EqualityLemmas
mod OwedLemmas
