pub mod Turns
pub mod Logs
pub mod Laid
pub mod Accepted
pub mod Done
