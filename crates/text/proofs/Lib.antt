pub mod Decimal
pub mod Cutting
pub mod Names
pub mod Trimming
mod Pieces
