pub mod Steps
pub mod Taking
pub mod Both
