pub mod Receive
pub mod Build
pub mod Send
