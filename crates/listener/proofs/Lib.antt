mod Rows
mod Hearing
pub mod ReadBits
