pub mod Blocks
pub mod Filled
pub mod Steps
