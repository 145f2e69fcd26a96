pub mod Laws
pub mod Doors
