pub mod Refusals
pub mod Answers
pub mod Times
pub mod Samples
pub mod Phases
pub mod Ring
pub mod Ints
