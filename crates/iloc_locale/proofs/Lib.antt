mod EqualityLemmas
pub mod ReadLemmas
pub mod AloneLemmas
mod LanguageAlone
pub mod NormalLemmas
pub mod SmallLemmas
pub mod ParentLemmas
