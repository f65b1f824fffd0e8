pub mod Views
pub mod Slots
