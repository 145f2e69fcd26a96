pub mod Digits
pub mod Fields
