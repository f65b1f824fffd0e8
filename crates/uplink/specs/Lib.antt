pub mod Placed
pub mod Judging
pub mod Received
