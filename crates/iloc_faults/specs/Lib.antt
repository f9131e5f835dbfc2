pub mod Places
pub mod Next
pub mod States
pub mod Numbers
