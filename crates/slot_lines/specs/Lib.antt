pub mod Blocks
pub mod Links
