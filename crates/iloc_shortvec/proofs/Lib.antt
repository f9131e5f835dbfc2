pub mod Filtered
pub mod Shifts
pub mod ShortLemmas
pub mod FrontLoan
