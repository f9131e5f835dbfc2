pub mod Fallback
