pub mod Prepared
pub mod Checked
pub mod Named
