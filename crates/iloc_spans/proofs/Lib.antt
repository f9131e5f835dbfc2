pub mod Shifting
pub mod Arranging
pub mod GroupPuts
pub mod SortingSteps
pub mod HeldLemmas
