pub mod Listing
pub mod Inputs
