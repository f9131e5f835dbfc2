pub mod RegionLemmas
pub mod ReadLemmas
