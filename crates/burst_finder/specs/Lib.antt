pub mod Search
pub mod Exact
pub mod Slots
