pub mod Taking
pub mod Pieces
pub mod Rooms
pub mod Steps
pub mod Served
