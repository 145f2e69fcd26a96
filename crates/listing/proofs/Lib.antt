pub mod Marks
pub mod Accepted
