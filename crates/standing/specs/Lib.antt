pub mod Laid
pub mod Judged
pub mod Sound
