pub mod CutLemmas
pub mod KeywordLemmas
pub mod ParentLemmas
pub mod TailLemmas
