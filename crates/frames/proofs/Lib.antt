pub mod Keeping
pub mod Runs
pub mod Listings
pub mod Asking
pub mod Sets
pub mod Room
pub mod Stream
pub mod Sizes
