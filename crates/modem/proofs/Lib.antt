pub mod Receiving
pub mod Building
