pub mod FailingSink
