pub mod Finding
pub mod Keeping
pub mod CleanLemmas
mod NeverLonger
