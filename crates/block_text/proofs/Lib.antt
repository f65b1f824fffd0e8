pub mod Characters
pub mod Blocks
pub mod Words
pub mod Offsets
pub mod Kept
pub mod Judged
