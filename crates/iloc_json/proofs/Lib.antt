pub mod ReadBack
pub mod CarryLemmas
