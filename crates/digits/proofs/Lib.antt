pub mod Stores
pub mod Digits
pub mod Bytes
pub mod Fields
