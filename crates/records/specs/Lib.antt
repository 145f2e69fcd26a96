pub mod Door
pub mod Apart
