pub mod Pieces
pub mod Short
