mod ExtensionsEquality
mod OrderLemmas
mod SplitLemmas
mod WellFormedLemmas
pub mod DoneLaws
pub mod ArmLaws
pub mod StepLaws
pub mod RoundLaws
pub mod PartAnswers
pub mod FaultNames
pub mod PartLemmas
pub mod AnswerLemmas
pub mod PlaceLemmas
pub mod RoomLemmas
