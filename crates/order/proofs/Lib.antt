pub mod Signs
pub mod Limits
pub mod Turns
