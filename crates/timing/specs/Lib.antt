pub mod Floats
pub mod Turns
pub mod Document
pub mod Tracking
pub mod Estimate
