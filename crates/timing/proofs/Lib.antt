pub mod Sizes
pub mod Cases
pub mod Law
pub mod Parts
pub mod Tracking
pub mod Exact
pub mod Window
