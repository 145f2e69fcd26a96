pub mod Divide
pub mod Multiple
pub mod Round
