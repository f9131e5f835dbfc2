pub mod JudgedLemmas
pub mod WrittenLemmas
