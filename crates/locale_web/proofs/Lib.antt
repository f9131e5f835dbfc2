pub mod Placing
pub mod Kinded
pub mod Walking
pub mod LocaleLemmas
pub mod ReadLemmas
pub mod SameLemmas
pub mod TextLemmas
