pub mod Sessions
pub mod SlotLines
pub mod Answers
pub mod Nights
pub mod TranscriptLines
