pub mod AnswerLines
pub mod Writing
