pub mod AdviceLemmas
pub mod TellLemmas
