pub mod Short
pub mod Sign
pub mod Judged
pub mod Pieces
pub mod Example
