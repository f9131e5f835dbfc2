pub mod Clones
pub mod Items
pub mod Results
pub mod Yielded
