pub mod Integers
pub mod Rungs
pub mod Lists
pub mod Entries
pub mod Answers
pub mod OfSet
pub mod Told
