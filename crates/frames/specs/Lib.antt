-- Document 01, "Frames", in its order: lines here; digits and fields in the crate `digits`; kinds, lengths and refusal 11 in `reading`
-- (Kinds.antt); what is kept (Session); the lines of an answer in `writing`; the answer to one line (Replies); a whole input (Transcript).
pub mod Lines
pub mod Session
pub mod Replies
pub mod Transcript
pub mod Stream
pub mod Keeping
pub mod Cases
