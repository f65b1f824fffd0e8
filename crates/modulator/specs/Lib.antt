pub mod Blocks
pub mod Sender
