pub mod Adjustment
mod Phase
pub mod Windows
pub mod Fields
pub mod Refusal
pub mod Placing
pub mod Answers
pub mod UplinkAnswers
pub mod Places
