pub mod AscendingLaws
pub mod SetLaws
pub mod CollectorLaws
pub mod CurrencyLemmas
mod CutLemmas
mod PrintLemmas
mod ReadingLemmas
pub mod RoomLemmas
mod WholeLemmas
mod OwedLemmas
