pub mod Deal
pub mod Rungs
