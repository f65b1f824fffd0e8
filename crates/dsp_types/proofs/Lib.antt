pub mod Signs
mod Bits
pub mod Fitting
pub mod IntLaws
pub mod RingLaws
pub mod Laws
pub mod Numbers
pub mod Chunks
