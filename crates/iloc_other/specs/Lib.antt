pub mod Reading
pub mod Singleton
