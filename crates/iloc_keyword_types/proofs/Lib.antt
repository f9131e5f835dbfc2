pub mod TableLemmas
pub mod EnumLemmas
pub mod CalendarLemmas
pub mod GivenLemmas
mod ScriptLemmas
mod TextLemmas
mod OwedLemmas
mod SubdivisionOrder
pub mod ReadingLemmas
