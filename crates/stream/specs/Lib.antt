pub mod Taking
pub mod Pieces
pub mod Served
