pub mod Common
pub mod Euclid
pub mod Limit
pub mod Quotient
