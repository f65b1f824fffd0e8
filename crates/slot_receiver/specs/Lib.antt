pub mod Receiver
pub mod Windows
pub mod Calls
pub mod View
pub mod Bounds
pub mod Quiet
pub mod Closing
