pub mod Share
pub mod FromStart
pub mod Table
pub mod Slots
pub mod FiniteTable
