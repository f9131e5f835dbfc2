pub mod AsciiLemmas
pub mod CopyLemmas
mod EndLemmas
mod CutLemmas
pub mod PlainAnswers
pub mod FrontAnswers
mod OutlinedLemmas
mod FoundAnswers
pub mod BlockFaults
pub mod Subtags
pub mod Names
pub mod Behind
mod Keywords
mod Heads
mod Blocks
mod Reading
mod Refusals
mod Regions
mod Puts
mod Texts
mod Named
pub mod NormalLemmas
