pub mod Magnitude
pub mod Document
pub mod Pattern
