pub mod Sizes
pub mod Texts
pub mod Writes
