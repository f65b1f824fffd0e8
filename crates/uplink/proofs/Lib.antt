pub mod Found
pub mod Judging
pub mod Taking
pub mod Examples
mod Told
