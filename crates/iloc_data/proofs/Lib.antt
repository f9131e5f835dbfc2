mod EqualityLemmas
mod ReadLemmas
pub mod KeywordLemmas
mod WholeLemmas
mod FormatterLemmas
mod ParentLemmas
